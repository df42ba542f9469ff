-- Serves inside: the least prime of a number, and the number without it.
use Rattle.std.specs.Prelude.{◌≡◌, ℕ, ◌*◌, ◌≤◌, ◌<◌}
use Rattle.std.specs.Int.{◌∣◌}
use Rattle.numbers.specs.Divisors.{Prime}
use Rattle.numbers.specs.PrimePowers.{FullPower}
use Rattle.numbers.specs.declared.factoring.Factor.{Factor}

-- p is the least divisor of n above 1, and so the least prime
pub record LeastPrime (n p : ℕ) : Type 0 where
  pub prime : Prime p
  pub divides : p ∣ n
  pub least : (d : ℕ) → 1 < d → d ∣ n → p ≤ d

-- that prime, its full power, and what is left without it
pub record FirstFactor (n : ℕ) (r : Factor) : Type 0 where
  pub full : FullPower n r.prime r.power
  pub least : (d : ℕ) → 1 < d → d ∣ n → r.prime ≤ d
  pub whole : r.power * r.rest ≡ n
