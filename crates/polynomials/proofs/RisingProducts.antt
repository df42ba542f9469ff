-- Rising products: k! divides each value, so that the limit times the product is 0 modulo K everywhere.
use mathlib.Core.Path.{◌≡◌, refl, sym, ap, subst, ◌∙◌}
use mathlib.Core.List.{List, [], ◌∷◌}
use Prim.Native.Nat.{ℕ, zero, suc, ◌+◌, ◌*◌, ◌%◌, ◌<◌, ◌∣◌}
use native.Mathlib.Nat.{one-dvd, dvd-zero, dvd-add, dvd_trans, mul-dvd-mul_left, zero-mod}
use native.Mathlib.Omega.{arith}
use lib.ListN.{get_or}
use Rattle.numbers.specs.Congruences.{Cong}
use Rattle.numbers.specs.Lists.{Written}
use Rattle.numbers.proofs.Congruences.{zero_cong}
use Rattle.polynomials.specs.Bounds.{factorial, Limit}
use Rattle.polynomials.specs.RisingProducts.{times_linear, rising, sum_at}
use Rattle.polynomials.proofs.Naturals.{valueℕ}

-- ---- its coefficients

linear_first : (n c : ℕ) (p : List ℕ) → get_or (times_linear n c p) 0 0 ≡ c + n * get_or p 0 0
unfolding times_linear
linear_first n c [] = omega arith
linear_first n c (a ∷ p) = refl

linear_next : (n c : ℕ) (p : List ℕ) (j : ℕ) → get_or (times_linear n c p) (suc j) 0 ≡ get_or p j 0 + n * get_or p (suc j) 0
unfolding times_linear
linear_next n c [] j = omega arith
linear_next n c (a ∷ p) zero = linear_first n a p
linear_next n c (a ∷ p) (suc j) = linear_next n a p j

rising_next : (n j : ℕ) → get_or (rising (suc n)) (suc j) 0 ≡ get_or (rising n) j 0 + n * get_or (rising n) (suc j) 0
unfolding rising
rising_next n j = linear_next n 0 (rising n) j

pub rising_first : (n : ℕ) → 0 < n → get_or (rising n) 0 0 ≡ 0
unfolding rising
rising_first zero h = absurd (omega arith)
rising_first (suc zero) h = linear_first 0 0 (rising 0) ∙ omega arith
rising_first (suc (suc n)) h =
    linear_first (suc n) 0 (rising (suc n)) ∙ omega (arith, ap (λ (t : ℕ). suc n * t) (rising_first (suc n) (omega arith)))

pub rising_past : (n j : ℕ) → n < j → get_or (rising n) j 0 ≡ 0
unfolding rising
rising_past zero zero l = absurd (omega arith)
rising_past zero (suc j) l = refl
rising_past (suc n) zero l = absurd (omega arith)
rising_past (suc n) (suc j) l =
    rising_next n j ∙ omega (arith, rising_past n j (omega arith), ap (λ (t : ℕ). n * t) (rising_past n (suc j) (omega arith)))

pub rising_top : (n : ℕ) → get_or (rising n) n 0 ≡ 1
unfolding rising
rising_top zero = refl
rising_top (suc n) = rising_next n n ∙ omega (arith, rising_top n, ap (λ (t : ℕ). n * t) (rising_past n (suc n) (omega arith)))

-- times t it adds nothing to a constant, and so the place 0 is done from the start
pub nothing_added : (K t n : ℕ) (p : List ℕ) → 0 < n → get_or p 0 0 ≡ sum_at K t n p 0
nothing_added K t n p n0 = omega (arith, ap (λ (y : ℕ). t * y) (ap (λ (y : ℕ). y % K) (rising_first n n0) ∙ zero-mod K))

pub adding_start : (K t n : ℕ) (p : List ℕ) → 0 < n → Written (sum_at K t n p) 1 p p
adding_start K t n p n0 =
    record {
      size = refl;
      entries = λ i l. subst (λ (i : ℕ). get_or p i 0 ≡ sum_at K t n p i) (omega arith) (nothing_added K t n p n0);
      rest = λ i l. refl;
    }

-- ---- its values

linear_value : (n c : ℕ) (p : List ℕ) (y : ℕ) → valueℕ (times_linear n c p) y ≡ c + (y + n) * valueℕ p y
unfolding times_linear
linear_value n c [] y = omega arith
linear_value n c (a ∷ p) y = omega (arith, ap (λ (t : ℕ). y * t) (linear_value n a p y))

rising_value : (n y : ℕ) → valueℕ (rising (suc n)) y ≡ (y + n) * valueℕ (rising n) y
unfolding rising
rising_value n y = linear_value n 0 (rising n) y ∙ omega arith

-- y·R(y + 1) is (y + n)·R(y)
slide : (n y : ℕ) → y * valueℕ (rising n) (suc y) ≡ (y + n) * valueℕ (rising n) y
unfolding rising
slide zero y = omega arith
slide (suc n) y =
    omega (arith, ap (λ (t : ℕ). y * t) (rising_value n (suc y)), ap (λ (t : ℕ). (suc y + n) * t) (slide n y), ap (λ (t : ℕ). (y + suc n) * t) (rising_value n y))

at_zero : (n : ℕ) → valueℕ (rising (suc n)) 0 ≡ 0
at_zero zero = rising_value 0 0 ∙ omega arith
at_zero (suc n) = rising_value (suc n) 0 ∙ omega (arith, ap (λ (t : ℕ). suc n * t) (at_zero n))

-- Pascal's rule
pascal : (n y : ℕ) → valueℕ (rising (suc n)) (suc y) ≡ valueℕ (rising (suc n)) y + suc n * valueℕ (rising n) (suc y)
pascal n y = rising_value n (suc y) ∙ omega (arith, slide n y, rising_value n y)

pub factorial_divides : (n y : ℕ) → factorial n ∣ valueℕ (rising n) y
factorial_divides zero y = one-dvd (valueℕ (rising 0) y)
factorial_divides (suc n) zero = subst (λ (t : ℕ). factorial (suc n) ∣ t) (sym (at_zero n)) (dvd-zero (factorial (suc n)))
factorial_divides (suc n) (suc y) =
    subst (λ (t : ℕ). factorial (suc n) ∣ t) (sym (pascal n y))
    (dvd-add (factorial (suc n)) (factorial_divides (suc n) y) (mul-dvd-mul_left (factorial n) (suc n) (factorial_divides n (suc y))))

-- K is the limit times a divisor of k!
pub rising_null : (K n m : ℕ) → Limit K n m → (y : ℕ) → Cong K (m * valueℕ (rising n) y) 0
rising_null K n m L y =
    zero_cong (m * valueℕ (rising n) y)
    (subst (λ (t : ℕ). t ∣ m * valueℕ (rising n) y) L.product
    (mul-dvd-mul_left L.divisor m (dvd_trans L.divisor L.is_gcd.right (factorial_divides n y))))
