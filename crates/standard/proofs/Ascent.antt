-- Numbers that ascend, by one test that is computed.
use mathlib.Core.Path.{◌≡◌, ap, subst}
use mathlib.Core.Logic.{by_cases}
use mathlib.Core.Bool.{Bool}
use Prim.Native.Nat.{ℕ, zero, suc, ◌+◌, ◌-◌, ◌≤◌}
use native.Mathlib.Nat.{add-zero, add-suc}
use native.Mathlib.Decide.{dec_lt}
use native.Mathlib.Omega.{arith}
use lib.Dec.{T, ltb, ltb→lt}
use Rattle.numbers.proofs.Computation.{every, passes}

-- at each place below n the next number is higher
abbrev pub ascending : ℕ → (ℕ → ℕ) → Bool
ascending n u = every n (λ i. ltb (u i) (u (suc i)))

module _ (n : ℕ) (u : ℕ → ℕ) (test : T (ascending n u)) where
  -- d places further on it is higher by d at least
  climbs : (i d : ℕ) → i + d ≤ n → u i + d ≤ u (i + d)
  climbs i zero l = omega (arith, ap u (add-zero i))
  climbs i (suc d) l =
      let next = ltb→lt (u (i + d)) (u (suc (i + d))) (passes n (λ i. ltb (u i) (u (suc i))) test (i + d) (omega arith)) in
      omega (arith, ap u (add-suc i d), climbs i d (omega arith))

  -- of two places the later has the number that is higher by as much at least
  pub rises : (i j : ℕ) → i ≤ j → j ≤ n → u i + (j - i) ≤ u j
  rises i j h l = subst (λ (m : ℕ). u i + (j - i) ≤ u m) (omega arith) (climbs i (j - i) (omega arith))

  -- no number stands at two places
  pub ascending_one : (i j : ℕ) → i ≤ n → j ≤ n → u i ≡ u j → i ≡ j
  ascending_one i j l m e =
      by_cases (dec_lt i j) (λ h. absurd (omega (arith, rises i j (omega arith) m))) λ h.
      by_cases (dec_lt j i) (λ g. absurd (omega (arith, rises j i (omega arith) l))) λ g. omega arith

  -- and each is between the first and the last
  pub ascending_within : (i : ℕ) → i ≤ n → (u 0 ≤ u i) × (u i ≤ u n)
  ascending_within i l = (omega (arith, rises 0 i (omega arith) l), omega (arith, rises i n l (omega arith)))
