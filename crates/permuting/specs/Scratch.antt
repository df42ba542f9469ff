-- To be believed: lent bytes once the work is done.
use Rattle.std.specs.Prelude.{◌≡◌, List, ◌++◌, ℕ, drop, replicate}

-- The first n bytes are zero, and the rest is as it was.
pub record Cleared (n : ℕ) (before after : List ℕ) : Type 0 where
  pub bytes : after ≡ replicate n 0 ++ drop n before
