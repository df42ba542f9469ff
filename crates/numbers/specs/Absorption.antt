-- Serves inside: every prime that divides one number divides another.
use Rattle.std.specs.Prelude.{◌≡◌, ℕ}
use Rattle.std.specs.Int.{◌∣◌}
use Rattle.numbers.specs.Divisors.{Coprime}

-- Every prime that divides k divides f, said without primes: a divisor of k that shares no factor with f is 1.
abbrev pub Absorbed : ℕ → ℕ → Type 0
Absorbed k f = (d : ℕ) → d ∣ k → Coprime d f → d ≡ 1
