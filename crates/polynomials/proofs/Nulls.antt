-- The top coefficient of a polynomial that is 0 modulo K everywhere.
use mathlib.Core.Path.{◌≡◌, refl, ap, ◌∙◌}
use mathlib.Core.List.{List, [], ◌∷◌}
use Prim.Native.Nat.{ℕ, zero, suc, ◌+◌, ◌*◌, ◌-◌, ◌≤◌, ◌<◌}
use native.Mathlib.Omega.{arith}
use lib.ListN.{get_or}
use Rattle.numbers.specs.Congruences.{Cong}
use Rattle.numbers.proofs.Congruences.{cong_eq, cong_sym, ◌⨾◌, cong_add, cong_times, cong_cancel}
use Rattle.polynomials.specs.Bounds.{factorial}
use Rattle.polynomials.proofs.Naturals.{valueℕ, add, add_place, add_value}

-- by how much y·q(y) grows from y to y + 1
increase : List ℕ → List ℕ
increase [] = []
increase (b ∷ q) = add (b ∷ add (increase q) q) (increase q)

increase_value : (q : List ℕ) (y : ℕ) → suc y * valueℕ q (suc y) ≡ y * valueℕ q y + valueℕ (increase q) y
unfolding increase
increase_value [] y = omega arith
increase_value (b ∷ q) y =
    ap (λ (t : ℕ). suc y * (b + t)) (increase_value q y)
    ∙ omega (arith, add_value (b ∷ add (increase q) q) (increase q) y, ap (λ (t : ℕ). y * t) (add_value (increase q) q y))

increase_first : (b : ℕ) (q : List ℕ) → get_or (increase (b ∷ q)) 0 0 ≡ b + get_or (increase q) 0 0
unfolding increase
increase_first b q = add_place (b ∷ add (increase q) q) (increase q) 0

increase_next : (b : ℕ) (q : List ℕ) (j : ℕ) → get_or (increase (b ∷ q)) (suc j) 0 ≡ get_or (increase q) j 0 + get_or q j 0 + get_or (increase q) (suc j) 0
unfolding increase
increase_next b q j = add_place (b ∷ add (increase q) q) (increase q) (suc j) ∙ ap (λ (t : ℕ). t + get_or (increase q) (suc j) 0) (add_place (increase q) q j)

module _ (K : ℕ) where
  -- where q is 0 from the place k on, so is the increase
  increase_past : (q : List ℕ) (k : ℕ) → ((j : ℕ) → k ≤ j → Cong K (get_or q j 0) 0) → (j : ℕ) → k ≤ j → Cong K (get_or (increase q) j 0) 0
  unfolding increase
  increase_past [] k h j l = cong_eq refl
  increase_past (b ∷ q) k h zero l =
      cong_eq (increase_first b q) ⨾ cong_add (h 0 l) (increase_past q (k - 1) (λ j m. h (suc j) (omega arith)) 0 (omega arith))
  increase_past (b ∷ q) k h (suc j) l =
      let r : (j : ℕ) → k - 1 ≤ j → Cong K (get_or (increase q) j 0) 0 = increase_past q (k - 1) (λ j m. h (suc j) (omega arith)) in
      cong_eq (increase_next b q j) ⨾ cong_add (cong_add (r j (omega arith)) (h (suc j) l)) (r (suc j) (omega arith))

  -- the coefficient of the increase at its top place
  increase_top : (q : List ℕ) (k : ℕ) → ((j : ℕ) → k < j → Cong K (get_or q j 0) 0) → Cong K (get_or (increase q) k 0) (suc k * get_or q k 0)
  unfolding increase
  increase_top [] k h = cong_eq (omega arith)
  increase_top (b ∷ q) zero h =
      cong_eq (increase_first b q) ⨾ cong_add (cong_eq {x = b} refl) (increase_past q 0 (λ j m. h (suc j) (omega arith)) 0 (omega arith)) ⨾ cong_eq (omega arith)
  increase_top (b ∷ q) (suc k) h =
      cong_eq (increase_next b q k)
      ⨾ cong_add (cong_add (increase_top q k (λ j m. h (suc j) (omega arith))) (cong_eq {x = get_or q k 0} refl))
      (increase_past q (suc k) (λ j m. h (suc j) (omega arith)) (suc k) (omega arith))
      ⨾ cong_eq (omega arith)

  -- if p is 0 modulo K everywhere, and its coefficients past the place k are, then so is k! times the one at k
  pub null_top : (k : ℕ) (p : List ℕ) → ((y : ℕ) → Cong K (valueℕ p y) 0) → ((j : ℕ) → k < j → Cong K (get_or p j 0) 0) → Cong K (factorial k * get_or p k 0) 0
  null_top zero [] z h = cong_eq (omega arith)
  null_top zero (a ∷ p) z h = cong_eq (omega arith) ⨾ z 0
  null_top (suc k) [] z h = cong_eq (omega arith)
  null_top (suc k) (a ∷ q) z h =
      cong_eq (omega arith)
      ⨾ cong_times (factorial k) (cong_sym (increase_top q k (λ j m. h (suc j) (omega arith))))
      ⨾ null_top k (increase q) step (increase_past q (suc k) (λ j m. h (suc j) (omega arith)))
    where
      step : (y : ℕ) → Cong K (valueℕ (increase q) y) 0
      step y =
          cong_cancel (a + y * valueℕ q y) (cong_eq (omega (arith, increase_value q y)) ⨾ z (suc y) ⨾ cong_sym (z y) ⨾ cong_eq (omega arith))
