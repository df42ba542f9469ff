-- Serves inside: congruence of natural numbers.
use Rattle.std.specs.Prelude.{◌≡◌, ℕ, ◌+◌, ◌*◌}

-- x and y are equal up to multiples of K, which are named, so that linear arithmetic proves each law.
pub record Cong (K x y : ℕ) : Type 0 where
  pub l : ℕ
  pub r : ℕ
  pub eq : x + l * K ≡ y + r * K
