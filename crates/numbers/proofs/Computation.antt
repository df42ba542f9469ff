-- A question of each number below n: as one test that is computed, and as a search for the first.
use mathlib.Core.Path.{◌≡◌, refl, sym, subst}
use mathlib.Core.Logic.{◌⊎◌, inl, inr, by_cases}
use mathlib.Core.Bool.{Bool, true, false, ◌&&◌}
use Prim.Native.Nat.{ℕ, zero, suc, ◌<◌}
use native.Mathlib.Decide.{ℕ_discrete}
use native.Mathlib.Omega.{arith}
use lib.Dec.{T, eqb, eqb→eq}

pub both_parts : (a b : Bool) → T (a && b) → T a × T b
both_parts true b t = (tt, t)
both_parts false b t = absurd t

-- the test passes at each number below n
abbrev pub every : ℕ → (ℕ → Bool) → Bool
every zero test = true
every (suc n) test = test n && every n test

pub passes : (n : ℕ) (test : ℕ → Bool) → T (every n test) → (i : ℕ) → i < n → T (test i)
passes zero test t i l = absurd (omega arith)
passes (suc n) test t i l =
    let (here, before) = both_parts (test n) (every n test) t in go here (λ h. passes n test before i h) (ℕ_discrete i n)
  where
    go : T (test n) → (i < n → T (test i)) → Dec (i ≡ n) → T (test i)
    go here before (yes e) = subst (λ (k : ℕ). T (test k)) (sym e) here
    go here before (no e) = before (omega arith)

-- where not every number below n passes, one fails
pub some_fails : (n : ℕ) (test : ℕ → Bool) → every n test ≡ false → (i : ℕ) × (i < n) × (test i ≡ false)
some_fails zero test e = let z : ◌≡◌ {A = ℕ} 0 1 = cc in absurd (omega arith)
some_fails (suc n) test e = go (test n) refl e (some_fails n test)
  where
    go : (b : Bool) → test n ≡ b → (b && every n test) ≡ false → (every n test ≡ false → (i : ℕ) × (i < n) × (test i ≡ false))
        → (i : ℕ) × (i < suc n) × (test i ≡ false)
    go true w e before = let r = before e in (r.0, omega (arith, r.1), r.2)
    go false w e before = (n, omega arith, w)

-- two rules that are the same at each number below n
pub same_below : (n : ℕ) (u v : ℕ → ℕ) → T (every n (λ i. eqb (u i) (v i))) → (i : ℕ) → i < n → u i ≡ v i
same_below n u v e i l = eqb→eq (u i) (v i) (passes n (λ i. eqb (u i) (v i)) e i l)

-- ---- the first number of which something holds

pub record FirstBelow (P : ℕ → Type 0) (n : ℕ) : Type 0 where
  pub at : ℕ
  pub within : at < n
  pub holds : P at
  pub before : (i : ℕ) → i < at → ¬ P i

-- it is below n, or none is
pub first_or_none : (P : ℕ → Type 0) → ((i : ℕ) → Dec (P i)) → (n : ℕ) → FirstBelow P n ⊎ ((i : ℕ) → i < n → ¬ P i)
first_or_none P decide zero = inr (λ i l. absurd (omega arith))
first_or_none P decide (suc n) = go (first_or_none P decide n) (decide n)
  where
    go : FirstBelow P n ⊎ ((i : ℕ) → i < n → ¬ P i) → Dec (P n) → FirstBelow P (suc n) ⊎ ((i : ℕ) → i < suc n → ¬ P i)
    go (inl found) d = inl (record { at = found.at; within = omega (arith, found.within); holds = found.holds; before = found.before })
    go (inr none) (yes here) = inl (record { at = n; within = omega arith; holds = here; before = none })
    go (inr none) (no out) = inr (λ i l h. by_cases (ℕ_discrete i n) (λ e. out (subst P e h)) (λ ne. none i (omega arith) h))
