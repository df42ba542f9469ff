-- Polynomials that agree modulo K: what their coefficients have in common. From it, the least degree and uniqueness inside the limits.
use mathlib.Core.Path.{◌≡◌, refl, sym, ap, subst, subst₂, ◌∙◌}
use mathlib.Core.Logic.{◌≢◌}
use mathlib.Core.List.{List}
use Prim.Native.Nat.{ℕ, zero, suc, ◌+◌, ◌*◌, ◌%◌, ◌≤◌, ◌<◌, ◌∣◌}
use native.Mathlib.Nat.{mod-lt, le_refl, le_of_lt, zero-add}
use native.Mathlib.Omega.{arith}
use lib.ListN.{length, get_or, get_or-eq_default}
use lib.IntN.{ℤ, pos}
use Rattle.numbers.specs.Congruences.{Cong}
use Rattle.numbers.proofs.Congruences.{cong_eq, cong_sym, ◌⨾◌, cong_add, cong_mod, cong_small, cong_zero, zero_cong}
use Rattle.polynomials.specs.Polynomials.{value, coefficient, Below, Congruent}
use Rattle.polynomials.specs.Bounds.{factorial, Limit, Within}
use Rattle.polynomials.specs.Reductions.{Agree}
use Rattle.polynomials.proofs.Differences.{positive, negative, parts, congruent, natural, natural_pos}
use Rattle.polynomials.proofs.Naturals.{valueℕ, add, add_place, add_value, plus, plus_place, plus_value, cong_value, positives, negatives, part_place, value_difference}
use Rattle.polynomials.proofs.Nulls.{null_top}
use Rattle.polynomials.proofs.Bounds.{limit_of, limit_exact, limit_pos}

module _ (K : ℕ) (k0 : 0 < K) (p q : List ℤ) (agree : Agree K p q) where
  agree_natural : (y : ℕ) → Cong K (valueℕ (positives p) y + valueℕ (negatives q) y) (valueℕ (positives q) y + valueℕ (negatives p) y)
  agree_natural y =
      cong_add (cong_value (positives p) (cong_mod K y)) (cong_value (negatives q) (cong_mod K y))
      ⨾ natural K (value_difference p (y % K)) (value_difference q (y % K)) (agree (y % K) (mod-lt y k0))
      ⨾ cong_sym (cong_add (cong_value (positives q) (cong_mod K y)) (cong_value (negatives p) (cong_mod K y)))

  -- values repeat modulo K
  pub agree_everywhere : (y : ℕ) → Congruent K (value p (pos y)) (value q (pos y))
  agree_everywhere y = congruent K (value_difference p y) (value_difference q y) (agree_natural y)

-- p - q with natural coefficients, where s is -1
minus : ℕ → List ℤ → List ℤ → List ℕ
minus s p q = plus (add (positives p) (negatives q)) s (add (positives q) (negatives p))

minus_place : (s : ℕ) (p q : List ℤ) (k : ℕ)
    → get_or (minus s p q) k 0 ≡ positive (coefficient p k) + negative (coefficient q k) + s * (positive (coefficient q k) + negative (coefficient p k))
unfolding minus
minus_place s p q k = simp (plus_place, add_place, part_place positive, part_place negative)

-- where p and q agree, and are the same past the place k, their coefficients at k are congruent modulo the limit
pub agree_place : (K : ℕ) → 0 < K → (p q : List ℤ) → Agree K p q → (k m : ℕ) → Limit K k m → ((j : ℕ) → k < j → coefficient p j ≡ coefficient q j)
    → Congruent m (coefficient p k) (coefficient q k)
unfolding minus
agree_place zero k0 p q agree k m L past = absurd (omega arith)
agree_place (suc s) k0 p q agree k m L past =
    congruent m (parts (coefficient p k)) (parts (coefficient q k))
    (record { l = L.divisor * b; r = 0; eq = omega (arith, ap (λ (t : ℕ). t * b) L.product) } ⨾ cong_add zero_at (cong_eq {x = b} refl) ⨾ cong_eq (zero-add b))
  where
    a : ℕ
    a = positive (coefficient p k) + negative (coefficient q k)

    b : ℕ
    b = positive (coefficient q k) + negative (coefficient p k)

    null : (y : ℕ) → Cong (suc s) (valueℕ (minus s p q) y) 0
    null y =
        let v = valueℕ (positives q) y + valueℕ (negatives p) y in
        cong_eq (simp (plus_value, add_value)) ⨾ cong_add (agree_natural (suc s) k0 p q agree y) (cong_eq {x = s * v} refl)
        ⨾ record { l = 0; r = v; eq = omega arith }

    null_past : (j : ℕ) → k < j → Cong (suc s) (get_or (minus s p q) j 0) 0
    null_past j l =
        record {
          l = 0;
          r = positive (coefficient q j) + negative (coefficient q j);
          eq = ap (λ (t : ℕ). t + 0 * suc s) (minus_place s p q j) ∙ rw (past j l) (omega arith);
        }

    zero_at : Cong m (a + s * b) 0
    zero_at =
        zero_cong (a + s * b)
        ((limit_exact k0 L (a + s * b)).0
        (subst (λ (t : ℕ). suc s ∣ factorial k * t) (minus_place s p q k) (cong_zero (null_top (suc s) k (minus s p q) null null_past))))

-- two numbers below the limit that are congruent modulo it are equal
same_within : {m : ℕ} {x y : ℤ} → Congruent m x y → (a : ℕ) × (x ≡ pos a) × (a < m) → (b : ℕ) × (y ≡ pos b) × (b < m) → x ≡ y
same_within {m} c (a, ex, la) (b, ey, lb) =
    ex ∙ ap pos (cong_small (natural_pos (subst₂ (λ (s t : ℤ). Congruent m s t) ex ey c)) la lb) ∙ sym ey

module _ (K : ℕ) (k0 : 0 < K) (p q : List ℤ) (within : Within K p) (agree : Agree K p q) where
  -- one of degree D inside the limits agrees with none of lower degree
  pub least_degree : (D : ℕ) → Below (D + 1) p → coefficient p D ≢ pos 0 → Below D q → ⊥
  least_degree D past top low =
      let (m, L) = limit_of k0 D in
      let same = agree_place K k0 p q agree D m L (λ j l. past j (omega arith) ∙ sym (low j (le_of_lt l))) in
      top (same_within same (within D m L) (0, low D (le_refl D), limit_pos k0 L) ∙ low D (le_refl D))

  -- two inside the limits that agree are the same
  pub unique : Within K q → (k : ℕ) → coefficient p k ≡ coefficient q k
  unique within_q k = go (length p + length q) k (omega arith)
    where
      go : (n k : ℕ) → length p + length q ≤ k + n → coefficient p k ≡ coefficient q k
      go zero k l = get_or-eq_default p (pos 0) (omega arith) ∙ sym (get_or-eq_default q (pos 0) (omega arith))
      go (suc n) k l =
          let (m, L) = limit_of k0 k in
          same_within (agree_place K k0 p q agree k m L (λ j h. go n j (omega arith))) (within k m L) (within_q k m L)
