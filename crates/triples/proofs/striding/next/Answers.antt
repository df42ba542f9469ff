-- Both differences are those of the law.
use mathlib.Core.Path.{refl}
use native.Mathlib.Omega.{arith}
use Rattle.triples.proofs.Rows.{at_next}
use Rattle.triples.proofs.striding.next.Goals as goal

pub returns : goal.returns
returns c =
    at_next (record { few = omega arith; address = omega arith; fall = omega arith; twice = omega arith }) refl c.minus.ensures.0
    c.minus-2.ensures.0 refl
