-- The least prime at which f fails to permute: one number fits, there is one unless f permutes, and how trial division comes to it.
use mathlib.Core.Path.{◌≡◌, refl, sym, subst}
use mathlib.Core.Logic.{⊎_elim, by_cases}
use mathlib.Core.Bool.{Bool}
use Prim.Native.Nat.{ℕ, zero, suc, ◌%◌, ◌≤◌, ◌<◌}
use native.Mathlib.Decide.{ℕ_discrete, dec_dvd}
use native.Mathlib.Omega.{arith}
use Rattle.numbers.specs.Decision.{Decides}
use Rattle.numbers.specs.PrimePowers.{FullPower}
use Rattle.numbers.specs.Factors.{FirstFactor}
use Rattle.numbers.specs.declared.factoring.Factor.{Factor}
use Rattle.numbers.proofs.Divisors.{factors_pos}
use Rattle.numbers.proofs.PrimePowers.{full_power_one}
use Rattle.numbers.proofs.Factors.{Left, left_start, left_more, left_full, left_keeps, left_none, factor_range, first_factor_of}
use Rattle.numbers.proofs.Residues.{permutes_powers}
use Rattle.permuting.specs.Formulas.{Permutes}
use Rattle.permuting.proofs.Formulas.{permutes_stable, permutes_as}
use Rattle.triples.specs.declared.Triple.{Triple}
use Rattle.triples.specs.Shuffles.{triple, f, quadratic, InRange}
use Rattle.triples.proofs.Values.{sum, sum_respects, reduced}
use Rattle.explaining.specs.Reasons.{modulo, FailsAt, LeastFailing}
use Rattle.explaining.proofs.Collisions.{collision_or_permutes, collision_fails}

-- ---- asked with the remainders of the coefficients

pub reduced_decides : (t : Triple) (m : ℕ) {answer : Bool} → Decides (Permutes (quadratic (triple m (t.f1 % m) (t.f2 % m)))) answer
    → Decides (Permutes (quadratic (modulo t m))) answer
reduced_decides t m d =
    record {
      yes_only_if = λ e. permutes_as (quadratic small) (quadratic (modulo t m)) refl (λ x _. same x) (d.yes_only_if e);
      no_only_if = λ e permutes. d.no_only_if e (permutes_as (quadratic (modulo t m)) (quadratic small) refl (λ x _. sym (same x)) permutes);
    }
  where
    small : Triple
    small = triple m (t.f1 % m) (t.f2 % m)

    same : (x : ℕ) → f small x ≡ f (modulo t m) x
    same = reduced m t.f1 t.f2

-- ---- a prime that fails

-- it is to blame
pub fails_not : {t : Triple} {p : ℕ} → 0 < t.k → FailsAt t p → ¬ Permutes (quadratic t)
fails_not {t} {p} pos fails permutes =
    fails.fails ((permutes_powers (sum t) pos (λ m _ x y _ _. sum_respects t m x y)).0 permutes p fails.power fails.full)

-- where f permutes modulo the full power, the prime does not fail
passes : {t : Triple} {p q : ℕ} → FullPower t.k p q → Permutes (quadratic (modulo t q)) → ¬ FailsAt t p
passes {t} full permutes fails =
    fails.fails (subst (λ (q : ℕ). Permutes (quadratic (modulo t q))) (full_power_one full fails.full) permutes)

pub least_failing_one : {t : Triple} {p r : ℕ} → LeastFailing t p → LeastFailing t r → p ≡ r
least_failing_one {t} {p} {r} a b = omega (arith, a.least r b.fails, b.least p a.fails)

-- ---- one prime of K after the other

-- the primes that are no longer in the rest do not fail
abbrev pub Passed : Triple → ℕ → Type 0
Passed t rest = Left t.k (λ p. ¬ FailsAt t p) rest

-- so that something is left of a triple that is no shuffle
some_left : {t : Triple} {rest : ℕ} → 0 < t.k → ¬ Permutes (quadratic t) → Passed t rest → 2 ≤ rest
some_left {t} {rest} pos not left = by_cases (ℕ_discrete rest 1) (λ e. absurd (not (all e))) (λ ne. omega (arith, factors_pos t.k left.gone rest pos (sym left.whole)))
  where
    all : rest ≡ 1 → Permutes (quadratic t)
    all e =
        (permutes_powers (sum t) pos (λ m _ x y _ _. sum_respects t m x y)).1
        (λ p q full. permutes_stable (quadratic (modulo t q)) (λ no. left_none left e full.prime full.of (record { power = q; full = full; fails = no })))

pub passed_start : {t : Triple} → Passed t t.k
passed_start = left_start

module _ {t : Triple} {rest : ℕ} {r : Factor} (left : Passed t rest) (next : FirstFactor rest r) where
  -- it goes on with less
  pub passed_more : InRange t → ¬ Permutes (quadratic t) → Permutes (quadratic (modulo t r.power)) → Passed t r.rest × (2 ≤ r.rest)
  passed_more range not permutes =
      let further = left_more left next (passes (left_full left next) permutes) in (further, some_left (omega (arith, range.low)) not further)

  pub failing_found : ¬ Permutes (quadratic (modulo t r.power)) → LeastFailing t r.prime
  failing_found not =
      record {
        fails = record { power = r.power; full = left_full left next; fails = not };
        least = λ p fails. by_cases (dec_dvd p rest) (next.least p fails.full.prime.above_one)
            (λ out. absurd (left_keeps left fails.full.prime fails.full.of out fails));
      }

-- ---- there is one

failing_in : (fuel : ℕ) {t : Triple} (rest : ℕ) → rest ≤ fuel → 2 ≤ rest → InRange t → ¬ Permutes (quadratic t) → Passed t rest → (p : ℕ) × LeastFailing t p
failing_in zero rest le big range not left = absurd (omega arith)
failing_in (suc fuel) {t} rest le big range not left = go (first_factor_of rest (omega arith)) (failing_in fuel {t = t})
  where
    go : (r : Factor) × FirstFactor rest r
        → ((rest : ℕ) → rest ≤ fuel → 2 ≤ rest → InRange t → ¬ Permutes (quadratic t) → Passed t rest → (p : ℕ) × LeastFailing t p)
        → (p : ℕ) × LeastFailing t p
    go (r, next) further =
        ⊎_elim (λ (y, x, address, c). (r.prime, failing_found left next (collision_fails (quadratic (modulo t r.power)) c)))
        (λ permutes.
        let (more, some) = passed_more left next range not permutes in
        further r.rest (omega (arith, (factor_range (omega arith) next).rest)) some range not more)
        (collision_or_permutes (quadratic (modulo t r.power)))

pub failing_exists : {t : Triple} → InRange t → ¬ Permutes (quadratic t) → (p : ℕ) × LeastFailing t p
failing_exists {t} range not = failing_in t.k t.k (omega arith) range.low range not passed_start
