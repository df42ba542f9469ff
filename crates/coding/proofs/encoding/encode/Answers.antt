-- The pass and the tails make the streams.
use native.Mathlib.Omega.{arith}
use Rattle.coding.proofs.Passes.{pass_start, pass_step, streams}
use Rattle.coding.proofs.encoding.encode.Goals as goal

pub loop-i-init : goal.loop-i-init
loop-i-init c = rw (c.new-first.ensures, c.new-second.ensures) (pass_start c.start-at.ensures)

pub loop-i-preserved : goal.loop-i-preserved
loop-i-preserved c =
    pass_step c.requires c.loop-i.invariant (omega arith) c.code.ensures c.code-in-loop-i.ensures c.next-at.ensures

pub returns : goal.returns
returns c =
    streams c.loop-i.invariant (omega arith) c.requires.size c.end-one.ensures c.end-two.ensures c.put_tail.ensures c.put_tail-2.ensures c.put_tail-3.ensures
