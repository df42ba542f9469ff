-- The period: which q repeat, and the least of them.
use mathlib.Core.Path.{◌≡◌, refl, sym, ap, subst, ◌∙◌}
use mathlib.Core.Logic.{◌≢◌, ◌↔◌}
use Prim.Native.Nat.{ℕ, zero, suc, ◌+◌, ◌*◌, ◌/◌, ◌%◌, ◌≤◌, ◌<◌, ◌∣◌}
use native.Mathlib.Nat.{dvd_refl, dvd-mul_right_of_dvd, dvd-add, dvd-add_iff_left, dvd_of_mod-eq-zero, mod-eq-zero_of_dvd, div-mul_cancel, le_of_dvd, pos_of_dvd_of_pos}
use native.Mathlib.Decide.{ℕ_discrete}
use native.Mathlib.Omega.{arith}
use Rattle.numbers.specs.Divisors.{IsGcd}
use Rattle.numbers.proofs.Divisors.{dvd_make, quotient, gcd_exact}
use Rattle.numbers.proofs.Congruences.{cong_eq, cong_same, same_cong, cong_zero, zero_cong, cong_add, cong_cancel, ◌⨾◌}
use Rattle.triples.specs.declared.Triple.{Triple}
use Rattle.arp_forms.specs.Arp.{Repeats, Divided, Period}

divided_repeats : (t : Triple) (q : ℕ) → Divided t q → Repeats t q
divided_repeats t q d i =
    cong_same
    (cong_eq {y = t.f2 * (i * i) + (t.f2 * (q * q) + 2 * t.f2 * q * i)} (omega arith)
    ⨾ cong_add (cong_eq {x = t.f2 * (i * i)} refl) (zero_cong (t.f2 * (q * q) + 2 * t.f2 * q * i) (dvd-add t.k d.square (dvd-mul_right_of_dvd t.k d.double i)))
    ⨾ cong_eq (omega arith))

repeats_divided : (t : Triple) (q : ℕ) → Repeats t q → Divided t q
repeats_divided t q r = record { square = square; double = (dvd-add_iff_left t.k {m = 2 * t.f2 * q} square).1 both }
  where
    square : t.k ∣ t.f2 * (q * q)
    square = cong_zero (same_cong (t.f2 * (q * q)) 0 (ap (λ (n : ℕ). n % t.k) (omega arith) ∙ r 0 ∙ ap (λ (n : ℕ). n % t.k) (omega arith)))

    both : t.k ∣ 2 * t.f2 * q + t.f2 * (q * q)
    both =
        cong_zero
        (cong_cancel (t.f2 * (1 * 1))
        (cong_eq {y = t.f2 * ((1 + q) * (1 + q))} (omega arith) ⨾ same_cong (t.f2 * ((1 + q) * (1 + q))) (t.f2 * (1 * 1)) (r 1) ⨾ cong_eq (omega arith)))

-- K divides both f2·q² and 2·f2·q exactly when f2·i² mod K repeats with period q
pub repeats_exactly : (t : Triple) (q : ℕ) → Divided t q ↔ Repeats t q
repeats_exactly t q = (divided_repeats t q, repeats_divided t q)

module _ (t : Triple) (g q : ℕ) (pos : 0 < t.k) (is : IsGcd t.k (2 * t.f2) g) (e : q ≡ t.k / g) where
  whole : q * g ≡ t.k
  whole = ap (λ (n : ℕ). n * g) e ∙ div-mul_cancel g is.left

  q_divides : q ∣ t.k
  q_divides = dvd_make q g (sym whole)

  -- the candidates are the multiples of q
  double : t.k ∣ 2 * t.f2 * q
  double = (gcd_exact t.k (2 * t.f2) g q q pos is whole).1 (dvd_refl q)

  multiple : (p : ℕ) → Repeats t p → q ∣ p
  multiple p r = (gcd_exact t.k (2 * t.f2) g q p pos is whole).0 (repeats_divided t p r).double

  serves : t.k ∣ t.f2 * (q * q) → Period t q
  serves square =
      record {
        divides = q_divides;
        repeats = divided_repeats t q (record { square = square; double = double });
        least = λ p d r. le_of_dvd (pos_of_dvd_of_pos d pos) (multiple p r);
      }

  pub period_even : q % 2 ≡ 0 → Period t q
  period_even z = serves (subst (λ (n : ℕ). t.k ∣ n) (paired t.f2 q z) (dvd-mul_right_of_dvd t.k double (q / 2)))
    where
      paired : (f q : ℕ) → q % 2 ≡ 0 → 2 * f * q * (q / 2) ≡ f * (q * q)
      paired f q z = let w : q ≡ 2 * (q / 2) = omega arith in omega (arith, ap (λ (n : ℕ). f * (q * n)) w)

  pub period_least : t.f2 * q % t.k ≡ 0 → Period t q
  period_least z = serves (subst (λ (n : ℕ). t.k ∣ n) (omega arith) (dvd-mul_right_of_dvd t.k (dvd_of_mod-eq-zero t.k z) q))

  -- where q is odd, K divides f2·q² only with f2·q
  odd_square : q % 2 ≢ 0 → t.k ∣ t.f2 * (q * q) → t.k ∣ t.f2 * q
  odd_square odd square =
      (dvd-add_iff_left t.k {m = t.f2 * q} (dvd-mul_right_of_dvd t.k double (q / 2))).1
      (subst (λ (n : ℕ). t.k ∣ n) (parted t.f2 q odd) square)
    where
      parted : (f q : ℕ) → q % 2 ≢ 0 → f * (q * q) ≡ f * q + 2 * f * q * (q / 2)
      parted f q odd = let w : q ≡ 2 * (q / 2) + 1 = omega arith in omega (arith, ap (λ (n : ℕ). f * (q * n)) w)

  -- where f2·q fails, the common divisor is even: were it odd, K would divide f2·q
  even : t.f2 * q % t.k ≢ 0 → g % 2 ≡ 0
  even ne = pick (ℕ_discrete (g % 2) 0)
    where
      single : g % 2 ≢ 0 → t.k ∣ t.f2 * q
      single odd =
          let (n, en) = quotient g is.right in
          let half : t.f2 ≡ g * (n / 2) = halved g n t.f2 odd en in
          dvd_make t.k (n / 2) (ap (λ (m : ℕ). m * q) half ∙ omega arith ∙ ap (λ (m : ℕ). m * (n / 2)) whole)
        where
          halved : (g n f : ℕ) → g % 2 ≢ 0 → 2 * f ≡ g * n → f ≡ g * (n / 2)
          halved g n f odd en = split (ℕ_discrete (n % 2) 0)
            where
              split : Dec (n % 2 ≡ 0) → f ≡ g * (n / 2)
              split (yes z) = let w : g * n ≡ g * (2 * (n / 2)) = ap (λ (m : ℕ). g * m) (omega arith) in omega arith
              split (no z) =
                  let w : g * n ≡ (2 * (g / 2) + 1) * (2 * (n / 2) + 1) = odd_product g n odd z in
                  absurd (omega arith)
                where
                  odd_product : (a b : ℕ) → a % 2 ≢ 0 → b % 2 ≢ 0 → a * b ≡ (2 * (a / 2) + 1) * (2 * (b / 2) + 1)
                  odd_product a b p q =
                      let ea : a ≡ 2 * (a / 2) + 1 = omega arith in
                      let eb : b ≡ 2 * (b / 2) + 1 = omega arith in
                      cc

      pick : Dec (g % 2 ≡ 0) → g % 2 ≡ 0
      pick (yes z) = z
      pick (no odd) = absurd (ne (mod-eq-zero_of_dvd t.k (single odd)))

  pub period_double : q % 2 ≢ 0 → t.f2 * q % t.k ≢ 0 → Period t (2 * q)
  period_double odd ne =
      record {
        divides = dvd_make (2 * q) (g / 2) (sym whole ∙ ap (λ (n : ℕ). q * n) (twice g (even ne)) ∙ omega arith);
        repeats =
            divided_repeats t (2 * q)
            (record {
              square = subst (λ (n : ℕ). t.k ∣ n) (omega arith) (dvd-mul_right_of_dvd t.k double (2 * q));
              double = subst (λ (n : ℕ). t.k ∣ n) (omega arith) (dvd-mul_right_of_dvd t.k double 2);
            });
        least = λ p d r. least p (pos_of_dvd_of_pos d pos) r (quotient q (multiple p r));
      }
    where
      twice : (n : ℕ) → n % 2 ≡ 0 → n ≡ 2 * (n / 2)
      twice n z = omega arith

      least : (p : ℕ) → 0 < p → Repeats t p → (c : ℕ) × (p ≡ q * c) → 2 * q ≤ p
      least p pos r (zero, w) = absurd (omega arith)
      least p pos r (suc zero, w) =
          let same : p ≡ q = omega arith in
          absurd (ne (mod-eq-zero_of_dvd t.k (odd_square odd (subst (λ (n : ℕ). t.k ∣ t.f2 * (n * n)) same (repeats_divided t p r).square))))
      least p pos r (suc (suc c), w) = omega arith
