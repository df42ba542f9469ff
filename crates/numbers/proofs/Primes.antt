-- Every number above 1 has a least prime divisor, and so what is said without primes is said of primes.
use mathlib.Core.Path.{◌≡◌, subst}
use mathlib.Core.Logic.{◌⊎◌, inl, inr, by_cases}
use Prim.Native.Nat.{ℕ, zero, suc, ◌+◌, ◌-◌, ◌*◌, ◌<◌, ◌∣◌}
use native.Mathlib.Nat.{dvd_refl, dvd_trans, le_of_dvd, pos_of_dvd_of_pos}
use native.Mathlib.Decide.{ℕ_discrete, dec_lt, dec_dvd}
use native.Mathlib.Omega.{arith}
use Rattle.numbers.specs.Divisors.{Prime, Coprime}
use Rattle.numbers.specs.Absorption.{Absorbed}
use Rattle.numbers.specs.Factors.{LeastPrime}
use Rattle.numbers.proofs.Divisors.{euclid}

-- no number from 2 on and below d divides n
abbrev pub NoneBelow : ℕ → ℕ → Type 0
NoneBelow n d = (e : ℕ) → 1 < e → e < d → ¬ (e ∣ n)

pub none_more : {n d : ℕ} → NoneBelow n d → ¬ (d ∣ n) → NoneBelow n (d + 1)
none_more {n} {d} none out c big lt h =
    by_cases (ℕ_discrete c d) (λ e. out (subst (λ (m : ℕ). m ∣ n) e h)) (λ ne. none c big (omega arith) h)

-- the least divisor of n above 1 is a prime
least_prime : (n d : ℕ) → 1 < d → d ∣ n → NoneBelow n d → Prime d
least_prime n d big h none = record { above_one = big; divisors = λ e p. pick e p (ℕ_discrete e 1) (ℕ_discrete e d) }
  where
    pick : (e : ℕ) → e ∣ d → Dec (e ≡ 1) → Dec (e ≡ d) → (e ≡ 1) ⊎ (e ≡ d)
    pick e p (yes one) y = inl one
    pick e p (no one) (yes all) = inr all
    pick e p (no one) (no all) =
        let pos : 0 < d = omega arith in
        absurd (none e (omega (arith, pos_of_dvd_of_pos p pos)) (omega (arith, le_of_dvd pos p)) (dvd_trans e p h))

pub least_found : {n p : ℕ} → 1 < p → p ∣ n → NoneBelow n p → LeastPrime n p
least_found {n} {p} big h none =
    record {
      prime = least_prime n p big h none;
      divides = h;
      least = λ d more k. by_cases (dec_lt d p) (λ lt. absurd (none d more lt k)) (λ ge. omega arith);
    }

-- it is searched from d up to n, which divides itself
least_from : (left n d : ℕ) → n ≡ d + left → 1 < d → NoneBelow n d → (p : ℕ) × LeastPrime n p
least_from zero n d e big none = (d, least_found big (subst (λ (m : ℕ). d ∣ m) (omega arith) (dvd_refl d)) none)
least_from (suc left) n d e big none = go (dec_dvd d n) (least_from left n (d + 1) (omega arith) (omega arith))
  where
    go : Dec (d ∣ n) → (NoneBelow n (d + 1) → (p : ℕ) × LeastPrime n p) → (p : ℕ) × LeastPrime n p
    go (yes h) further = (d, least_found big h none)
    go (no h) further = further (none_more none h)

pub least_prime_of : (n : ℕ) → 1 < n → (p : ℕ) × LeastPrime n p
least_prime_of n h = least_from (n - 2) n 2 (omega arith) (omega arith) (λ e l m. absurd (omega arith))

pub prime_divisor : (n : ℕ) → 1 < n → (p : ℕ) × Prime p × (p ∣ n)
prime_divisor n h = let (p, l) = least_prime_of n h in (p, l.prime, l.divides)

-- ---- a prime and a number that it does not divide

pub prime_coprime : {p : ℕ} (a : ℕ) → Prime p → ¬ (p ∣ a) → Coprime p a
prime_coprime {p} a prime out d h k = pick (prime.divisors d h)
  where
    pick : (d ≡ 1) ⊎ (d ≡ p) → d ≡ 1
    pick (inl one) = one
    pick (inr all) = absurd (out (subst (λ (n : ℕ). n ∣ a) all k))

pub prime_factor : {p : ℕ} (a b : ℕ) → Prime p → p ∣ a * b → ¬ (p ∣ a) → p ∣ b
prime_factor {p} a b prime h out = euclid p a b (prime_coprime a prime out) h

-- ---- every prime that divides k divides f

pub absorbed_primes : {k f : ℕ} → Absorbed k f → (p : ℕ) → Prime p → p ∣ k → p ∣ f
absorbed_primes {k} {f} ab p prime h = decide (dec_dvd p f)
  where
    decide : Dec (p ∣ f) → p ∣ f
    decide (yes q) = q
    decide (no q) = absurd (omega (arith, prime.above_one, ab p h (prime_coprime f prime q)))

pub primes_absorbed : {k f : ℕ} → 0 < k → ((p : ℕ) → Prime p → p ∣ k → p ∣ f) → Absorbed k f
primes_absorbed {k} {f} pos primes d h co = decide (ℕ_discrete d 1)
  where
    decide : Dec (d ≡ 1) → d ≡ 1
    decide (yes one) = one
    decide (no more) =
        let (p, prime, q) = prime_divisor d (omega (arith, pos_of_dvd_of_pos h pos)) in
        absurd (omega (arith, prime.above_one, co p q (primes p prime (dvd_trans p q h))))
