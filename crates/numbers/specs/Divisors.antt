-- To be believed: common divisors and primes.
use Rattle.std.specs.Prelude.{◌≡◌, ◌⊎◌, ℕ, ◌<◌}
use Rattle.std.specs.Int.{◌∣◌}

-- g is the greatest common divisor of a and b: the common divisor that every other common divisor divides.
pub record IsGcd (a b g : ℕ) : Type 0 where
  pub left : g ∣ a
  pub right : g ∣ b
  pub greatest : (d : ℕ) → d ∣ a → d ∣ b → d ∣ g

-- a and b share no factor.
abbrev pub Coprime : ℕ → ℕ → Type 0
Coprime a b = (d : ℕ) → d ∣ a → d ∣ b → d ≡ 1

-- p is a prime: it is above 1, and nothing but 1 and p divides it.
pub record Prime (p : ℕ) : Type 0 where
  pub above_one : 1 < p
  pub divisors : (d : ℕ) → d ∣ p → (d ≡ 1) ⊎ (d ≡ p)
