-- The test of the scope says the same as the definition: both say that the odd form keeps the rule.
use mathlib.Core.Path.{◌≡◌, refl, sym, subst}
use mathlib.Core.Logic.{◌⊎◌, inl, inr}
use Prim.Native.Nat.{ℕ, ◌+◌, ◌/◌, ◌%◌, ◌<◌, ◌∣◌}
use native.Mathlib.Nat.{dvd_trans, mod-mod_of_dvd}
use native.Mathlib.Decide.{ℕ_discrete}
use native.Mathlib.Omega.{arith}
use Rattle.numbers.specs.Divisors.{Coprime, Prime}
use Rattle.numbers.specs.Congruences.{Cong}
use Rattle.numbers.proofs.Divisors.{dvd_make, euclid, coprime_dvd, coprime_swap}
use Rattle.numbers.proofs.Congruences.{cong_eq, cong_sym, cong_same, same_cong, cong_add, cong_divisor, ◌⨾◌}
use Rattle.numbers.proofs.Primes.{absorbed_primes, primes_absorbed}
use Rattle.triples.specs.declared.Triple.{Triple}
use Rattle.permuting.specs.Formulas.{Permutes}
use Rattle.triples.specs.Shuffles.{InRange, Shuffle, odd_form, quadratic}
use Rattle.acceptance.specs.PermutationTest.{HalfTest, WholeTest, PermutationTest}
use Rattle.acceptance.proofs.OddForm.{odd_form_cases, mod_parity}
use Rattle.acceptance.proofs.Rule.{Rule, even, odd_if_not, odd_coprime, permutes_rule, rule_enough}

-- ---- the parities of the odd form

-- where K is even, the rule leaves f1 odd and f2 even
rule_parity : {o : Triple} → Rule o → o.k % 2 ≡ 0 → (o.f1 % 2 ≡ 1) × (o.f2 % 2 ≡ 0)
rule_parity {o} u e = (odd_if_not o.f1 (λ d. omega (arith, u.coprime 2 d two)), pick (ℕ_discrete (o.f2 % 2) 0))
  where
    two : 2 ∣ o.k
    two = even o.k e

    pick : Dec (o.f2 % 2 ≡ 0) → o.f2 % 2 ≡ 0
    pick (yes z) = z
    pick (no z) = absurd (omega (arith, u.absorbed 2 two (odd_coprime o.f2 (omega arith))))

-- where K and f1 are even, an accepted pair has K divisible by 2 and not by 4, and its odd form has f1 odd and f2 even
pub even_pair : {t : Triple} → Shuffle t → t.k % 2 ≡ 0 → t.f1 % 2 ≡ 0
    → (t.k % 4 ≡ 2) × ((odd_form t).f1 % 2 ≡ 1) × ((odd_form t).f2 % 2 ≡ 0)
even_pair {t} s p q =
    odd_form_cases (λ o. Rule o → (t.k % 4 ≡ 2) × (o.f1 % 2 ≡ 1) × (o.f2 % 2 ≡ 0)) t (λ h. absurd (h p)) (λ h. absurd (h q))
    (λ _ _ u. let b = rule_parity u p in (omega (arith, mod_parity t.k (t.f1 + t.k / 2) p, b.0), b.0, b.1))
    (permutes_rule s.range s.permutes)

-- ---- K divisible by 2 and not by 4

-- what the odd form o of t is there: f1 is odd, and from t nothing is changed modulo K/2, nor the parity of f1 + f2
record Halves (t o : Triple) : Type 0 where
  length : o.k ≡ t.k
  odd : o.f1 % 2 ≡ 1
  sum : (o.f1 + o.f2) % 2 ≡ (t.f1 + t.f2) % 2
  first : Cong (t.k / 2) o.f1 t.f1
  second : Cong (t.k / 2) o.f2 t.f2

half_divides : (k : ℕ) → k % 2 ≡ 0 → k / 2 ∣ k
half_divides k e = dvd_make (k / 2) 2 (omega arith)

-- what is odd and divides K divides K/2
half_divisor : (k d : ℕ) → k % 2 ≡ 0 → Coprime d 2 → d ∣ k → d ∣ k / 2
half_divisor k d e co h = euclid d 2 (k / 2) co (subst (λ (n : ℕ). d ∣ n) (omega arith) h)

odd_form_halves : (t : Triple) → t.k % 4 ≡ 2 → Halves t (odd_form t)
odd_form_halves t e =
    odd_form_cases (Halves t) t (λ h. absurd (h p)) (λ h. same (omega arith))
    (λ _ q.
    record {
      length = refl;
      odd = omega (arith, mod_parity t.k (t.f1 + t.k / 2) p);
      sum =
          cong_same (cong_add (shift 2 t.f1 (even t.k p)) (shift 2 t.f2 (even t.k p)) ⨾ record { l = 0; r = t.k / 2; eq = omega arith });
      first = shift (t.k / 2) t.f1 (half_divides t.k p) ⨾ record { l = 0; r = 1; eq = omega arith };
      second = shift (t.k / 2) t.f2 (half_divides t.k p) ⨾ record { l = 0; r = 1; eq = omega arith };
    })
  where
    p : t.k % 2 ≡ 0
    p = omega arith

    same : t.f1 % 2 ≡ 1 → Halves t t
    same q = record { length = refl; odd = q; sum = refl; first = cong_eq refl; second = cong_eq refl }

    shift : (d a : ℕ) → d ∣ t.k → Cong d ((a + t.k / 2) % t.k) (a + t.k / 2)
    shift d a h = same_cong _ _ (mod-mod_of_dvd d (a + t.k / 2) h)

half_rule : {t o : Triple} → 0 < t.k → t.k % 4 ≡ 2 → Halves t o → HalfTest t → Rule o
half_rule {t} {o} pos e w test =
    record {
      coprime =
          λ d a b.
          let h : d ∣ t.k / 2 = half d (coprime_dvd d a (coprime_swap (odd_coprime o.f1 w.odd))) b in
          test.coprime d (cong_divisor d h w.first a) h;
      absorbed = primes_absorbed (omega (arith, w.length)) (λ p prime h. divides p prime h (ℕ_discrete (p % 2) 1));
    }
  where
    half : (d : ℕ) → Coprime d 2 → d ∣ o.k → d ∣ t.k / 2
    half d co h = half_divisor t.k d (omega arith) co (subst (λ (n : ℕ). d ∣ n) w.length h)

    divides : (p : ℕ) → Prime p → p ∣ o.k → Dec (p % 2 ≡ 1) → p ∣ o.f2
    divides p prime h (yes odd) =
        let co : Coprime p 2 = coprime_swap (odd_coprime p odd) in
        cong_divisor p (half p co h) (cong_sym w.second) (test.primes p prime odd (subst (λ (n : ℕ). p ∣ n) w.length h))
    divides p prime h (no odd) = pick (prime.divisors 2 (even p (omega arith)))
      where
        pick : (◌≡◌ {A = ℕ} 2 1) ⊎ (2 ≡ p) → p ∣ o.f2
        pick (inl z) = absurd (omega arith)
        pick (inr two) = subst (λ (n : ℕ). n ∣ o.f2) two (even o.f2 (omega (arith, w.odd, w.sum, test.sum)))

rule_half : {t o : Triple} → t.k % 4 ≡ 2 → Halves t o → Rule o → HalfTest t
rule_half {t} {o} e w u =
    record {
      sum = let b = rule_parity u (omega (arith, w.length)) in omega (arith, w.sum, b.0, b.1);
      coprime = λ d a b. u.coprime d (cong_divisor d b (cong_sym w.first) a) (whole d (dvd_trans d b (half_divides t.k (omega arith))));
      primes =
          λ p prime odd h. cong_divisor p (half_divisor t.k p (omega arith) (coprime_swap (odd_coprime p odd)) h) w.second
          (absorbed_primes u.absorbed p prime (whole p h));
    }
  where
    whole : (d : ℕ) → d ∣ t.k → d ∣ o.k
    whole d h = subst (λ (n : ℕ). d ∣ n) (sym w.length) h

-- ---- the test and the definition

pub test_permutes : {t : Triple} → InRange t → PermutationTest t → Permutes (quadratic t)
test_permutes {t} range test = rule_enough range (pick (ℕ_discrete (t.k % 4) 2))
  where
    pos : 0 < t.k
    pos = omega (arith, range.low)

    rule : WholeTest t → Rule t
    rule w = record { coprime = w.coprime; absorbed = primes_absorbed pos w.primes }

    pick : Dec (t.k % 4 ≡ 2) → Rule (odd_form t)
    pick (yes e) = half_rule pos e (odd_form_halves t e) (test.half e)
    pick (no e) =
        let w = test.whole e in
        odd_form_cases Rule t (λ _. rule w) (λ _. rule w) (λ p q. absurd (omega (arith, w.coprime 2 (even t.f1 q) (even t.k p))))

pub permutes_test : {t : Triple} → InRange t → Permutes (quadratic t) → PermutationTest t
permutes_test {t} range permutes =
    record {
      half = λ e. rule_half e (odd_form_halves t e) rule;
      whole =
          λ e. odd_form_cases (λ o. Rule o → WholeTest t) t (λ _. whole) (λ _. whole)
          (λ p q. absurd (e (even_pair (record { range = range; permutes = permutes }) p q).0)) rule;
    }
  where
    rule : Rule (odd_form t)
    rule = permutes_rule range permutes

    whole : Rule t → WholeTest t
    whole u = record { coprime = u.coprime; primes = absorbed_primes u.absorbed }
