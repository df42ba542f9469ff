-- To be believed: the test for permuting, in the words of the scope. That it says the same as `Permutes` is proved.
use Rattle.std.specs.Prelude.{◌≡◌, ◌≢◌, ℕ, ◌+◌, ◌/◌, ◌%◌}
use Rattle.std.specs.Int.{◌∣◌}
use Rattle.numbers.specs.Divisors.{Coprime, Prime}
use Rattle.triples.specs.declared.Triple.{Triple}

-- f1 + f2 is odd, f1 shares no factor with K/2, and every odd prime that divides K divides f2.
pub record HalfTest (t : Triple) : Type 0 where
  pub sum : (t.f1 + t.f2) % 2 ≡ 1
  pub coprime : Coprime t.f1 (t.k / 2)
  pub primes : (p : ℕ) → Prime p → p % 2 ≡ 1 → p ∣ t.k → p ∣ t.f2

-- f1 shares no factor with K, and every prime that divides K divides f2.
pub record WholeTest (t : Triple) : Type 0 where
  pub coprime : Coprime t.f1 t.k
  pub primes : (p : ℕ) → Prime p → p ∣ t.k → p ∣ t.f2

-- The first test is for K divisible by 2 and not by 4, the second for any other K.
pub record PermutationTest (t : Triple) : Type 0 where
  pub half : t.k % 4 ≡ 2 → HalfTest t
  pub whole : t.k % 4 ≢ 2 → WholeTest t
