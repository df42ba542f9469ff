-- The answer rests on `squares_decide`: the last of four squares in a row, f to the sixteenth, is 0 modulo k exactly where f absorbs k.
use native.Mathlib.Omega.{arith}
use Rattle.numbers.proofs.Absorption.{squares_decide}
use Rattle.numbers.proofs.absorbs.Goals as goal

pub returns : goal.returns
returns c =
    squares_decide _ _ _ _ _ _ (omega arith) (omega arith) c.times-second.ensures.0 c.times-fourth.ensures.0 c.times-eighth.ensures.0 c.times.ensures.0
    c.times.ensures.1
