-- Serves inside: the largest of some numbers.
use Rattle.std.specs.Prelude.{◌≡◌, ◌⊎◌, List, ℕ, ◌≤◌, ◌<◌, get_or}

-- none of the first n is above it, and it is one of them or 0
pub record Largest (list : List ℕ) (n most : ℕ) : Type 0 where
  pub above : (i : ℕ) → i < n → get_or list i 0 ≤ most
  pub one : (most ≡ 0) ⊎ ((i : ℕ) × (i < n) × (get_or list i 0 ≡ most))
