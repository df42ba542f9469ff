-- The full power of a prime: every prime of a number has just one, it shares no factor with the rest of the number, and what all full powers
-- of a number divide the number divides.
use mathlib.Core.Path.{◌≡◌, refl, sym, ap, ◌∙◌, subst}
use mathlib.Core.Logic.{by_cases}
use Prim.Native.Nat.{ℕ, zero, suc, ◌+◌, ◌-◌, ◌*◌, ◌/◌, ◌^◌, ◌≤◌, ◌<◌, ◌∣◌}
use native.Mathlib.Nat.{dvd_refl, dvd_trans, mul-dvd-mul, mul-dvd-mul_left, dvd_of_mul-dvd-mul_right, one-dvd, mul_comm, one-mul, pow-zero, pow-suc, div-mul_cancel, div-lt_self}
use native.Mathlib.Decide.{ℕ_discrete, dec_lt, dec_dvd}
use native.Mathlib.Omega.{arith}
use lib.Pow.{pow-add}
use Rattle.numbers.specs.Divisors.{Prime, Coprime, IsGcd}
use Rattle.numbers.specs.PrimePowers.{FullPower}
use Rattle.numbers.proofs.Divisors.{dvd_make, gcd_of, factors_pos}
use Rattle.numbers.proofs.Absorption.{power_absorbed}
use Rattle.numbers.proofs.Primes.{prime_divisor, prime_coprime}

-- a power of a prime shares no factor with what the prime does not divide
pub power_coprime : {p : ℕ} (a n : ℕ) → Prime p → ¬ (p ∣ a) → Coprime (p ^ n) a
power_coprime {p} a n prime out d h k =
    power_absorbed n d p h d (dvd_refl d) (λ e s t. prime_coprime d prime (λ q. out (dvd_trans p q k)) e t s)

module _ {n p q : ℕ} (full : FullPower n p q) where
  -- the prime itself divides it
  pub power_of : p ∣ q
  power_of = pick full.exponent full.power
    where
      pick : (e : ℕ) → q ≡ p ^ e → p ∣ q
      pick zero w = absurd (full.next (subst (λ (m : ℕ). m ∣ n) (sym (ap (λ (m : ℕ). m * p) (w ∙ pow-zero p) ∙ one-mul p)) full.of))
      pick (suc e) w = dvd_make p (p ^ e) (w ∙ pow-suc p e ∙ mul_comm (p ^ e) p)

  -- nothing of the prime is in the rest, so that the two share no factor
  pub power_out : (rest : ℕ) → q * rest ≡ n → ¬ (p ∣ rest)
  power_out rest whole h = full.next (subst (λ (m : ℕ). q * p ∣ m) whole (mul-dvd-mul_left p q h))

  pub power_apart : (rest : ℕ) → q * rest ≡ n → Coprime q rest
  power_apart rest whole =
      subst (λ (m : ℕ). Coprime m rest) (sym full.power) (power_coprime rest full.exponent full.prime (power_out rest whole))

-- a prime has one full power
pub full_power_one : {n p q r : ℕ} → FullPower n p q → FullPower n p r → q ≡ r
full_power_one {n} {p} {q} {r} a b = go (dec_lt a.exponent b.exponent) (dec_lt b.exponent a.exponent)
  where
    -- a lower power is no full one, since the next divides the higher
    higher : {q r : ℕ} (a : FullPower n p q) (b : FullPower n p r) → a.exponent < b.exponent → ⊥
    higher {q} {r} a b lt =
        let e : b.exponent ≡ suc a.exponent + (b.exponent - suc a.exponent) = omega arith in
        a.next
        (dvd_trans (q * p)
        (dvd_make (q * p) (p ^ (b.exponent - suc a.exponent))
        (b.power ∙ ap (λ (m : ℕ). p ^ m) e ∙ pow-add p (suc a.exponent) (b.exponent - suc a.exponent)
        ∙ ap (λ (m : ℕ). m * p ^ (b.exponent - suc a.exponent)) (pow-suc p a.exponent ∙ ap (λ (m : ℕ). m * p) (sym a.power))))
        b.divides)

    go : Dec (a.exponent < b.exponent) → Dec (b.exponent < a.exponent) → q ≡ r
    go (yes l) m = absurd (higher a b l)
    go (no l) (yes m) = absurd (higher b a m)
    go (no l) (no m) = a.power ∙ ap (λ (e : ℕ). p ^ e) (omega arith) ∙ sym b.power

-- ---- every prime of n has a full power

-- p is divided out of n as long as it can be
power_in : (fuel n p : ℕ) → n ≤ fuel → 0 < n → 1 < p → (e : ℕ) × (p ^ e ∣ n) × (¬ (p ^ e * p ∣ n))
power_in zero n p le pos big = absurd (omega arith)
power_in (suc fuel) n p le pos big = go (dec_dvd p n) (power_in fuel (n / p) p)
  where
    go : Dec (p ∣ n) → (n / p ≤ fuel → 0 < n / p → 1 < p → (e : ℕ) × (p ^ e ∣ n / p) × (¬ (p ^ e * p ∣ n / p)))
        → (e : ℕ) × (p ^ e ∣ n) × (¬ (p ^ e * p ∣ n))
    go (no out) below =
        (0, subst (λ (m : ℕ). m ∣ n) (sym (pow-zero p)) (one-dvd n), λ h. out (subst (λ (m : ℕ). m ∣ n) (ap (λ (m : ℕ). m * p) (pow-zero p) ∙ one-mul p) h))
    go (yes h) below =
        let whole : n / p * p ≡ n = div-mul_cancel p h in
        let (e, d, next) = below (omega (arith, div-lt_self {n = n} {k = p} pos big)) (factors_pos n (n / p) p pos (sym whole)).0 big in (
          suc e,
          subst (λ (m : ℕ). p ^ suc e ∣ m) whole (subst (λ (m : ℕ). m ∣ n / p * p) (sym (pow-suc p e)) (mul-dvd-mul (p ^ e) p d (dvd_refl p))),
          λ w. next (dvd_of_mul-dvd-mul_right {k = p} (p ^ e * p) {n = n / p} (omega arith)
              (subst (λ (m : ℕ). p ^ e * p * p ∣ m) (sym whole) (subst (λ (m : ℕ). m * p ∣ n) (pow-suc p e) w))),
        )

pub full_power_of : {n p : ℕ} → 0 < n → Prime p → p ∣ n → (q : ℕ) × FullPower n p q
full_power_of {n} {p} pos prime h =
    let (e, d, next) = power_in n n p (omega arith) pos prime.above_one in
    (p ^ e, record { prime = prime; of = h; exponent = e; power = refl; divides = d; next = next })

-- what all full powers of n divide, n divides
pub powers_divide : {n d : ℕ} → 0 < n → ((p q : ℕ) → FullPower n p q → q ∣ d) → n ∣ d
powers_divide {n} {d} pos each = from (gcd_of n d pos)
  where
    from : (g : ℕ) × IsGcd n d g → n ∣ d
    from (g, is) = by_cases (ℕ_discrete (n / g) 1) all (λ more. absurd (never more))
      where
        whole : n / g * g ≡ n
        whole = div-mul_cancel g is.left

        all : n / g ≡ 1 → n ∣ d
        all one = subst (λ (m : ℕ). m ∣ d) (sym (one-mul g) ∙ ap (λ (m : ℕ). m * g) (sym one) ∙ whole) is.right

        -- a prime of n/g would stand in n once more than in its full power
        never : ¬ (n / g ≡ 1) → ⊥
        never more =
            let (p, prime, h) = prime_divisor (n / g) (omega (arith, factors_pos n (n / g) g pos (sym whole))) in
            let of_n : p ∣ n = dvd_trans p h (dvd_make (n / g) g (sym whole)) in
            let (q, full) = full_power_of pos prime of_n in
            full.next
            (subst (λ (m : ℕ). m ∣ n) (mul_comm p q)
            (subst (λ (m : ℕ). p * q ∣ m) whole (mul-dvd-mul p q h (is.greatest q full.divides (each p q full)))))
