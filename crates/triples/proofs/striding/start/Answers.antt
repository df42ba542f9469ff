-- f(0) is 0, and f rises from it by f1 + f2.
use mathlib.Core.Path.{refl}
use native.Mathlib.Omega.{arith}
use Rattle.triples.proofs.Rows.{at_start}
use Rattle.triples.proofs.striding.start.Goals as goal

pub returns : goal.returns
returns c =
    at_start _ _ (record { few = omega arith; address = omega arith; fall = omega arith; twice = omega arith }) refl refl c.minus-down1.ensures.0
    c.minus-down2.ensures.0 c.minus.ensures.0 c.minus-2.ensures.0
