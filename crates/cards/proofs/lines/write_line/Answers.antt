-- `write_line`: the bytes held are the front of the line, and a front that was cut off has the same card.
use native.Mathlib.Omega.{arith}
use Rattle.cards.proofs.Storage.{holding_card}
use Rattle.cards.proofs.lines.write_line.Goals as goal

pub returns : goal.returns
returns c =
    record { wrote = λ seen h. holding_card h (λ few. omega (arith, c.min.ensures)) c.write_card.ensures; fits = c.write_card.ensures.written.fits }
