-- To be believed: a list whose front is written by a rule.
use Rattle.std.specs.Prelude.{◌≡◌, List, ℕ, ◌≤◌, ◌<◌, length, get_or}

-- The first n entries of the list after are those of the rule, and the rest is as it was before.
pub record Written (rule : ℕ → ℕ) (n : ℕ) (before after : List ℕ) : Type 0 where
  pub size : length after ≡ length before
  pub entries : (i : ℕ) → i < n → get_or after i 0 ≡ rule i
  pub rest : (i : ℕ) → n ≤ i → get_or after i 0 ≡ get_or before i 0
