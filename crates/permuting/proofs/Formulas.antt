-- How to show that a formula permutes: by its contrary's contrary, by a formula with the same addresses, and by the earlier positions alone.
use mathlib.Core.Path.{◌≡◌, sym, ◌∙◌}
use mathlib.Core.Logic.{◌≢◌, by_cases}
use Prim.Native.Nat.{ℕ, ◌<◌}
use native.Mathlib.Decide.{ℕ_discrete, dec_lt}
use native.Mathlib.Omega.{arith}
use Rattle.permuting.specs.Formulas.{Formula, Permutes}

pub permutes_stable : (φ : Formula) → ¬ (¬ Permutes φ) → Permutes φ
permutes_stable φ h x y lx ly e = by_cases (ℕ_discrete x y) (λ s. s) (λ s. absurd (h (λ p. s (p x y lx ly e))))

pub permutes_as : (φ ψ : Formula) → φ.length ≡ ψ.length → ((i : ℕ) → i < φ.length → φ.map i ≡ ψ.map i) → Permutes φ → Permutes ψ
permutes_as φ ψ size same permutes x y lx ly e =
    let lx' : x < φ.length = omega arith in
    let ly' : y < φ.length = omega arith in
    permutes x y lx' ly' (same x lx' ∙ e ∙ sym (same y ly'))

pub permutes_apart : (φ : Formula) → ((i j : ℕ) → i < j → j < φ.length → φ.map i ≢ φ.map j) → Permutes φ
permutes_apart φ apart x y lx ly e = go (dec_lt x y) (dec_lt y x)
  where
    go : Dec (x < y) → Dec (y < x) → x ≡ y
    go (yes l) r = absurd (apart x y l ly e)
    go (no l) (yes m) = absurd (apart y x m lx (sym e))
    go (no l) (no m) = omega arith
