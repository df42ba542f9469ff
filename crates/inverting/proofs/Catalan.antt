-- The Catalan numbers' equation, C(z) = 1 + z·C(z)², where the thirteenth power of z is 0.
use mathlib.Core.Path.{◌≡◌, ap, ◌∙◌}
use mathlib.Core.Bool.{Bool}
use mathlib.Core.List.{List, [], ◌∷◌}
use Prim.Native.Nat.{ℕ, ◌+◌, ◌*◌, ◌^◌, ◌<◌}
use native.Mathlib.Omega.{arith}
use lib.Dec.{eqb, eqb→eq}
use lib.ListN.{get_or}
use Rattle.numbers.specs.Congruences.{Cong}
use Rattle.numbers.proofs.Congruences.{cong_eq, ◌⨾◌}
use Rattle.numbers.proofs.Computation.{passes}
use Rattle.polynomials.proofs.Naturals.{valueℕ, add, add_value, scale, multiply, multiply_value, cong_before}
use Rattle.inverting.specs.Series.{catalan}

-- 1 + z·C(z)²
squared : List ℕ
squared = add (1 ∷ []) (0 ∷ multiply catalan catalan)

test : ℕ → Bool
test j = eqb (get_or catalan j 0) (get_or squared j 0)

first_places : (j : ℕ) → j < 13 → get_or catalan j 0 ≡ get_or squared j 0
unfolding test squared catalan add scale multiply
first_places j l = eqb→eq (get_or catalan j 0) (get_or squared j 0) (passes 13 test tt j l)

pub equation : {K : ℕ} (z : ℕ) → Cong K (z ^ 13) 0 → Cong K (valueℕ catalan z) (1 + z * (valueℕ catalan z * valueℕ catalan z))
unfolding squared
equation z nil =
    cong_before 13 catalan squared z nil (λ j l. cong_eq (first_places j l))
    ⨾ cong_eq (add_value (1 ∷ []) (0 ∷ multiply catalan catalan) z ∙ omega (arith, ap (λ (t : ℕ). z * t) (multiply_value catalan catalan z)))
