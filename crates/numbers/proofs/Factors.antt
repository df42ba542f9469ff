-- Trial division: how the least prime of a number is found, how its full power is divided out, and what is known of the primes that are
-- no longer in what is left.
use mathlib.Core.Path.{◌≡◌, sym, ap, ◌∙◌, subst}
use mathlib.Core.Logic.{◌≢◌, ⊎_elim, by_cases}
use Prim.Native.Nat.{ℕ, suc, ◌*◌, ◌/◌, ◌%◌, ◌^◌, ◌≤◌, ◌<◌, ◌∣◌}
use native.Mathlib.Nat.{dvd_refl, dvd_trans, dvd_of_mul-dvd-mul_right, mod-eq-zero_of_dvd, pos_of_dvd_of_pos, le_of_dvd, mul-le-mul_right, one-mul, mul_comm, mul_assoc, mul-le-mul, pow-zero, pow-suc, eq-one_of_dvd-one, div-mul_cancel}
use native.Mathlib.Decide.{ℕ_discrete, dec_lt, dec_dvd}
use native.Mathlib.Omega.{arith}
use Rattle.numbers.specs.Divisors.{Prime, Coprime}
use Rattle.numbers.specs.PrimePowers.{FullPower}
use Rattle.numbers.specs.Factors.{LeastPrime, FirstFactor}
use Rattle.numbers.specs.declared.factoring.Factor.{Factor}
use Rattle.numbers.proofs.Divisors.{dvd_make, quotient, euclid, factors_pos}
use Rattle.numbers.proofs.Primes.{NoneBelow, least_prime_of, prime_factor}
use Rattle.numbers.proofs.PrimePowers.{power_of, power_coprime, power_apart, full_power_of}

-- ---- the least prime of n

-- of two factors one is not above the root
pub none_to_root : {n p : ℕ} → 1 < n → NoneBelow n p → n < p * p → NoneBelow n n
none_to_root {n} {p} pos none small d big lt h =
    let (c, e) = quotient d h in
    let of_c : c ∣ n = dvd_make c d (e ∙ mul_comm d c) in
    let some : 0 < c = pos_of_dvd_of_pos of_c (omega arith) in
    let more : c ≢ 1 = λ one. omega (arith, ap (λ (m : ℕ). d * m) one) in
    omega (arith, mul-le-mul {n₁ = p} {m₁ = p} {n₂ = d} {m₂ = c} (at_least d big h) (at_least c (omega arith) of_c))
  where
    at_least : (d : ℕ) → 1 < d → d ∣ n → p ≤ d
    at_least d big h = by_cases (dec_lt d p) (λ lt. absurd (none d big lt h)) (λ ge. omega arith)

-- ---- its full power

-- so much of n is divided out, and the rest is left
pub record Divided (n p power rest : ℕ) : Type 0 where
  pub exponent : ℕ
  pub is : power ≡ p ^ exponent
  pub whole : power * rest ≡ n

pub divided_once : {n p : ℕ} → p ∣ n → Divided n p p (n / p)
divided_once {n} {p} h =
    record {
      exponent = 1;
      is = sym (pow-suc p 0 ∙ ap (λ (m : ℕ). m * p) (pow-zero p) ∙ one-mul p);
      whole = mul_comm p (n / p) ∙ div-mul_cancel p h;
    }

pub divided_more : {n p power rest : ℕ} → Divided n p power rest → p ∣ rest → Divided n p (power * p) (rest / p)
divided_more {n} {p} {power} {rest} d h =
    record {
      exponent = suc d.exponent;
      is = ap (λ (m : ℕ). m * p) d.is ∙ sym (pow-suc p d.exponent);
      whole = mul_assoc power p (rest / p) ∙ ap (λ (m : ℕ). power * m) (mul_comm p (rest / p) ∙ div-mul_cancel p h) ∙ d.whole;
    }

pub divided_all : {n p power rest : ℕ} → 0 < n → LeastPrime n p → Divided n p power rest → rest % p ≢ 0
    → FirstFactor n (record { prime = p; power = power; rest = rest })
divided_all {n} {p} {power} {rest} pos l d out =
    record {
      full = record {
        prime = l.prime;
        of = l.divides;
        exponent = d.exponent;
        power = d.is;
        divides = dvd_make power rest (sym d.whole);
        next = λ h. out (mod-eq-zero_of_dvd p (dvd_of_mul-dvd-mul_right {k = power} p {n = rest} (factors_pos n power rest pos (sym d.whole)).0 (turned h)));
      };
      least = l.least;
      whole = d.whole;
    }
  where
    turned : power * p ∣ n → p * power ∣ rest * power
    turned h = subst (λ (m : ℕ). m ∣ rest * power) (mul_comm power p) (subst (λ (m : ℕ). power * p ∣ m) (sym d.whole ∙ mul_comm power rest) h)

-- the numbers of a factor
pub record FactorRange (n : ℕ) (r : Factor) : Type 0 where
  pub above_one : 1 < r.prime
  pub prime : r.prime ≤ r.power
  pub power : r.power ≤ n
  pub rest : r.rest < n

pub factor_range : {n : ℕ} {r : Factor} → 0 < n → FirstFactor n r → FactorRange n r
factor_range {n} {r} pos next =
    let parts = factors_pos n r.power r.rest pos (sym next.whole) in
    let big : 1 < r.prime = next.full.prime.above_one in
    let le : r.prime ≤ r.power = le_of_dvd parts.0 (power_of next.full) in
    let two : 2 ≤ r.power = omega arith in
    record { above_one = big; prime = le; power = le_of_dvd pos next.full.divides; rest = omega (arith, next.whole, mul-le-mul_right r.rest two) }

-- every number above 1 has one
pub first_factor_of : (n : ℕ) → 1 < n → (r : Factor) × FirstFactor n r
first_factor_of n big =
    let (p, l) = least_prime_of n big in
    let (q, full) = full_power_of (omega arith) l.prime l.divides in
    (record { prime = p; power = q; rest = n / q }, record { full = full; least = l.least; whole = mul_comm q (n / q) ∙ div-mul_cancel q full.divides })

-- ---- one prime after the other

-- rest is left of n. What is gone shares no factor with it, and the primes that are gone keep P.
pub record Left (n : ℕ) (P : ℕ → Type 0) (rest : ℕ) : Type 0 where
  pub gone : ℕ
  pub whole : gone * rest ≡ n
  pub apart : Coprime gone rest
  pub kept : (p : ℕ) → Prime p → p ∣ gone → P p

module _ {n : ℕ} {P : ℕ → Type 0} where
  pub left_start : Left n P n
  left_start =
      record {
        gone = 1;
        whole = one-mul n;
        apart = λ d h k. eq-one_of_dvd-one h;
        kept = λ p prime h. absurd (omega (arith, prime.above_one, eq-one_of_dvd-one h));
      }

  -- a prime of n is gone or left
  pub left_keeps : {rest p : ℕ} → Left n P rest → Prime p → p ∣ n → ¬ (p ∣ rest) → P p
  left_keeps {rest} {p} l prime h out =
      l.kept p prime (prime_factor rest l.gone prime (subst (λ (m : ℕ). p ∣ m) (sym l.whole ∙ mul_comm l.gone rest) h) out)

  -- and if nothing is left, every prime of n keeps P
  pub left_none : {rest p : ℕ} → Left n P rest → rest ≡ 1 → Prime p → p ∣ n → P p
  left_none {rest} {p} l e prime h =
      left_keeps l prime h (λ k. omega (arith, prime.above_one, eq-one_of_dvd-one (subst (λ (m : ℕ). p ∣ m) e k)))

  module _ {rest : ℕ} {r : Factor} (l : Left n P rest) (next : FirstFactor rest r) where
    -- a full power in what is left is one in n
    pub left_full : FullPower n r.prime r.power
    left_full =
        record {
          prime = full.prime;
          of = dvd_trans r.prime full.of of_n;
          exponent = full.exponent;
          power = full.power;
          divides = dvd_trans r.power full.divides of_n;
          next = λ h. full.next (euclid (r.power * r.prime) l.gone rest apart (subst (λ (m : ℕ). r.power * r.prime ∣ m) (sym l.whole) h));
        }
      where
        full : FullPower rest r.prime r.power
        full = next.full

        of_n : rest ∣ n
        of_n = dvd_make rest l.gone (sym l.whole ∙ mul_comm l.gone rest)

        out : ¬ (r.prime ∣ l.gone)
        out h = omega (arith, full.prime.above_one, l.apart r.prime h full.of)

        apart : Coprime (r.power * r.prime) l.gone
        apart =
            subst (λ (m : ℕ). Coprime m l.gone) (pow-suc r.prime full.exponent ∙ ap (λ (m : ℕ). m * r.prime) (sym full.power))
            (power_coprime l.gone (suc full.exponent) full.prime out)

    pub left_more : P r.prime → Left n P r.rest
    left_more keeps =
        record {
          gone = l.gone * r.power;
          whole = mul_assoc l.gone r.power r.rest ∙ ap (λ (m : ℕ). l.gone * m) next.whole ∙ l.whole;
          apart = λ d h k. power_apart next.full r.rest next.whole d (euclid d l.gone r.power (λ e s t. l.apart e t (dvd_trans e s (dvd_trans d k of_rest))) h) k;
          kept = λ p prime h. by_cases (dec_dvd p l.gone) (l.kept p prime)
              (λ out. subst P (sym (only p prime (prime_factor l.gone r.power prime h out))) keeps);
        }
      where
        of_rest : r.rest ∣ rest
        of_rest = dvd_make r.rest r.power (sym next.whole ∙ mul_comm r.power r.rest)

        -- the full power has no prime but its own
        only : (p : ℕ) → Prime p → p ∣ r.power → p ≡ r.prime
        only p prime h = by_cases (ℕ_discrete p r.prime) (λ e. e) (λ ne. absurd (other ne))
          where
            other : p ≢ r.prime → ⊥
            other ne =
                omega (
                  arith,
                  prime.above_one,
                  power_coprime p next.full.exponent next.full.prime (λ k. ⊎_elim (λ e. omega (arith, next.full.prime.above_one)) (λ e. ne (sym e)) (prime.divisors r.prime k)) p
                      (subst (λ (m : ℕ). p ∣ m) next.full.power h) (dvd_refl p),
                )
