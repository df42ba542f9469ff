-- To be believed: the limits of the coefficients.
use Rattle.std.specs.Prelude.{◌≡◌, List, ℕ, zero, suc, ◌*◌, ◌<◌, ℤ, pos}
use Rattle.numbers.specs.Divisors.{IsGcd}
use Rattle.polynomials.specs.Polynomials.{coefficient}

-- k!
abbrev pub factorial : ℕ → ℕ
factorial zero = 1
factorial (suc k) = suc k * factorial k

-- m is the limit at the place k: K divided by the greatest common divisor of K and k!.
pub record Limit (K k m : ℕ) : Type 0 where
  pub divisor : ℕ
  pub is_gcd : IsGcd K (factorial k) divisor
  pub product : m * divisor ≡ K

-- Each coefficient of p is a whole number, 0 or more and below the limit at its place.
abbrev pub Within : ℕ → List ℤ → Type 0
Within K p = (k m : ℕ) → Limit K k m → (a : ℕ) × (coefficient p k ≡ pos a) × (a < m)
