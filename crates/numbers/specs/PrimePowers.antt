-- To be believed: how often a prime stands in a number.
use Rattle.std.specs.Prelude.{◌≡◌, ℕ, ◌*◌, ◌^◌}
use Rattle.std.specs.Int.{◌∣◌}
use Rattle.numbers.specs.Divisors.{Prime}

-- p is a prime of n, and q is its full power in n: the power of p that divides n while the next does not.
pub record FullPower (n p q : ℕ) : Type 0 where
  pub prime : Prime p
  pub of : p ∣ n
  pub exponent : ℕ
  pub power : q ≡ p ^ exponent
  pub divides : q ∣ n
  pub next : ¬ (q * p ∣ n)
