-- Each return is a law of scaling: a small f2 is scaled above, a large one below.
use native.Mathlib.Nat.{div-le_self}
use native.Mathlib.Omega.{arith}
use Rattle.maps.specs.Maps.{scale}
use Rattle.maps.proofs.Scaling.{quotient, above_lt, below_lt, scaled_above, scaled_below}
use Rattle.maps.proofs.map_of.Goals as goal

pub overflow_add-above : goal.overflow_add-above
overflow_add-above c = omega (arith, div-le_self scale ((c.args.t)).k)

pub overflow_mul-result : goal.overflow_mul-result
overflow_mul-result c = omega (arith, above_lt _ _ _ ((quotient ((c.args.t)).k (omega arith) (omega arith))) ((c.args.t)).f1 (omega arith))

pub overflow_mul-result-then-f2-k : goal.overflow_mul-result-then-f2-k
overflow_mul-result-then-f2-k c = omega (arith, above_lt _ _ _ ((quotient ((c.args.t)).k (omega arith) (omega arith))) ((c.args.t)).f2 (omega arith))

pub returns-then-f2-k : goal.returns-then-f2-k
returns-then-f2-k c =
    scaled_above ((c.args.t)) c.requires _ _ ((quotient ((c.args.t)).k (omega arith) (omega arith))) (omega arith)

pub overflow_mul-result-2 : goal.overflow_mul-result-2
overflow_mul-result-2 c = omega (arith, below_lt _ _ _ ((quotient ((c.args.t)).k (omega arith) (omega arith))) ((c.args.t)).f1 (omega arith))

pub overflow_add-result : goal.overflow_add-result
overflow_add-result c = omega (arith, below_lt _ _ _ ((quotient ((c.args.t)).k (omega arith) (omega arith))) ((c.args.t)).f1 (omega arith))

pub overflow_mul-result-3 : goal.overflow_mul-result-3
overflow_mul-result-3 c = omega (arith, below_lt _ _ _ ((quotient ((c.args.t)).k (omega arith) (omega arith))) ((c.args.t)).f2 (omega arith))

pub overflow_add-result-2 : goal.overflow_add-result-2
overflow_add-result-2 c = omega (arith, below_lt _ _ _ ((quotient ((c.args.t)).k (omega arith) (omega arith))) ((c.args.t)).f2 (omega arith))

pub returns : goal.returns
returns c =
    scaled_below ((c.args.t)) c.requires _ _ ((quotient ((c.args.t)).k (omega arith) (omega arith))) (omega arith)
