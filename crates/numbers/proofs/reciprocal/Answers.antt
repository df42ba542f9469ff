use native.Mathlib.Omega.{arith}
use Rattle.numbers.proofs.Reciprocals.{multipliers_step, multipliers_end}
use Rattle.numbers.proofs.reciprocal.Goals as goal

pub loop-lower-preserved : goal.loop-lower-preserved
loop-lower-preserved c = multipliers_step _ _ _ _ _ _ c.loop-lower.invariant c.loop-lower-test.true

pub returns : goal.returns
returns c = multipliers_end _ _ _ _ _ _ (omega arith) c.loop-lower.invariant (omega arith)
