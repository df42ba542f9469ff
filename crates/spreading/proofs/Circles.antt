-- Distances round a circle of n.
use mathlib.Core.Path.{◌≡◌, ◌∙◌}
use mathlib.Core.Logic.{◌≢◌, ◌⊎◌, inl, inr, by_cases}
use Prim.Native.Nat.{ℕ, ◌+◌, ◌-◌, ◌*◌, ◌%◌, ◌≤◌, ◌<◌}
use native.Mathlib.Nat.{mod-eq_of_lt}
use native.Mathlib.Decide.{dec_lt}
use native.Mathlib.Omega.{arith}
use Rattle.numbers.specs.Congruences.{Cong}
use Rattle.numbers.proofs.Congruences.{cong_eq, cong_same}
use Rattle.spreading.specs.Spreads.{circular}

pub circular_swap : (n a b : ℕ) → circular n a b ≡ circular n b a
circular_swap n a b = omega arith

pub circular_some : (n a b : ℕ) → a < n → b < n → a ≢ b → 0 < circular n a b
circular_some n a b la lb ne = omega arith

-- across the end
across : (n x d : ℕ) → n ≤ x + d → x < n → d < n → (x + d) % n ≡ x + d - n
across n x d h lx ld = cong_same (record { l = 0; r = 1; eq = omega arith }) ∙ mod-eq_of_lt (omega arith)

-- d further on is at most d away, and elsewhere
pub further_on : (n x d : ℕ) → x < n → 0 < d → d < n → (circular n x ((x + d) % n) ≤ d) × (x ≢ (x + d) % n)
further_on n x d lx some ld =
    by_cases (dec_lt (x + d) n) (λ h. let e = mod-eq_of_lt h in (omega (arith, e), λ z. omega (arith, e)))
    (λ h. let e = across n x d (omega arith) lx ld in (omega (arith, e), λ z. omega (arith, e)))

-- one of two positions is as far on from the other as they are apart
pub ahead : (n a b : ℕ) → a < n → b < n → Cong n b (a + circular n a b) ⊎ Cong n a (b + circular n a b)
ahead n a b la lb =
    by_cases (dec_lt a b) (λ l. by_cases (dec_lt n (2 * (b - a))) (λ h. inr (over (omega arith))) (λ h. inl (cong_eq (omega arith))))
    (λ l. by_cases (dec_lt n (2 * (a - b))) (λ h. inl (over (omega arith))) (λ h. inr (cong_eq (omega arith))))
  where
    over : {x y : ℕ} → x + n ≡ y → Cong n x y
    over e = record { l = 1; r = 0; eq = omega arith }
