-- Demand 3, over the promise of the inverse call: the polynomial sends every address back, no polynomial of lower degree does, and it is
-- the only one inside the limits.
use mathlib.Core.Path.{◌≡◌}
use mathlib.Core.List.{List}
use Prim.Native.Nat.{ℕ, ◌≤◌, ◌<◌}
use lib.IntN.{ℤ, pos}
use Rattle.polynomials.specs.Polynomials.{value, coefficient, Below, Congruent}
use Rattle.polynomials.specs.Bounds.{Within}
use Rattle.polynomials.specs.Inverses.{Undoes, from_first}
use Rattle.triples.specs.declared.Triple.{Triple}
use Rattle.triples.specs.Shuffles.{f}
use Rattle.qpp.specs.declared.answers.InverseForm.{InverseForm}
use Rattle.qpp.specs.Promises.{InverseOf}

module _ {t : Triple} {r : InverseForm} (answer : InverseOf t r) (done : r.number ≡ 0) where
  -- g(f(x)) mod K = x at every position x
  pub sends_back : (x : ℕ) → x < t.k → Congruent t.k (value (from_first r.a) (pos (f t x))) (pos x)
  sends_back = (answer.done done).polynomial.undoes

  -- D is from 1 to 13
  pub degree_range : (1 ≤ r.degree) × (r.degree ≤ 13)
  degree_range = ((answer.done done).polynomial.low, (answer.done done).polynomial.high)

  -- no polynomial of lower degree with whole coefficients, a constant allowed, agrees with the inverse at all positions
  pub least_degree : (h : List ℤ) → Undoes t.k (f t) h → ¬ Below r.degree h
  least_degree = (answer.done done).polynomial.least

  -- no other polynomial without a constant that keeps the limits, of any degree, does
  pub only_one_inside : (h : List ℤ) → coefficient h 0 ≡ pos 0 → Within t.k h → Undoes t.k (f t) h
      → (k : ℕ) → coefficient h k ≡ coefficient (from_first r.a) k
  only_one_inside = (answer.done done).polynomial.only
