-- `take_byte`: at a newline the card of the line is written, and the line is empty; any other byte makes the line longer.
use native.Mathlib.Omega.{arith}
use Rattle.cards.proofs.Pieces.{took_line, took_byte}
use Rattle.cards.proofs.streaming.take_byte.Goals as goal

pub returns-then-byte-eq10 : goal.returns-then-byte-eq10
returns-then-byte-eq10 c =
    took_line (omega arith) c.write_line-end.ensures c.new.ensures

pub returns : goal.returns
returns c = took_byte (omega arith) (omega arith) c.push.ensures
