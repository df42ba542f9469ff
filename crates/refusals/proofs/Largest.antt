-- The largest of some numbers, found one after the other.
use mathlib.Core.Path.{◌≡◌, refl, ◌∙◌, subst, sym}
use mathlib.Core.Logic.{◌⊎◌, inl, inr}
use mathlib.Core.List.{List}
use Prim.Native.Nat.{ℕ, ◌+◌, ◌≤◌, ◌<◌}
use Rattle.std.specs.Prelude.{max}
use native.Mathlib.Decide.{ℕ_discrete}
use native.Mathlib.Omega.{arith}
use lib.ListN.{get_or}
use Rattle.refusals.specs.Largest.{Largest}

pub largest_none : {list : List ℕ} → Largest list 0 0
largest_none = record { above = λ i h. absurd (omega arith); one = inl refl }

pub largest_more : {list : List ℕ} {n most r : ℕ} → Largest list n most → r ≡ max (get_or list n 0) most → Largest list (n + 1) r
largest_more {list} {n} {most} {r} s e =
    record { above = λ i h. at i h (ℕ_discrete i n); one = taken (one (ℕ_discrete r most)) s.one }
  where
    at : (i : ℕ) → i < n + 1 → Dec (i ≡ n) → get_or list i 0 ≤ r
    at i h (yes here) = subst (λ (j : ℕ). get_or list j 0 ≤ r) (sym here) (omega (arith, e))
    at i h (no ne) = omega (arith, s.above i (omega arith), e)

    Among : ℕ → ℕ → Type 0
    Among n v = (v ≡ 0) ⊎ ((i : ℕ) × (i < n) × (get_or list i 0 ≡ v))

    one : Dec (r ≡ most) → (r ≡ most) ⊎ (r ≡ get_or list n 0)
    one (yes same) = inl same
    one (no ne) = inr (omega (arith, e, ne))

    taken : (r ≡ most) ⊎ (r ≡ get_or list n 0) → Among n most → Among (n + 1) r
    taken (inl e) (inl z) = inl (e ∙ z)
    taken (inl e) (inr (i, h, there)) = inr (i, omega arith, there ∙ sym e)
    taken (inr e) _ = inr (n, omega arith, sym e)
