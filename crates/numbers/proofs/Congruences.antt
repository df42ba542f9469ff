-- Laws of congruence: it is an equivalence that sums, products and powers respect, and it is what remainders say.
use mathlib.Core.Path.{◌≡◌, refl, sym, ap, ap₂, ◌∙◌}
use Prim.Native.Nat.{ℕ, zero, suc, ◌+◌, ◌*◌, ◌-◌, ◌/◌, ◌%◌, ◌^◌, ◌≤◌, ◌<◌, ◌∣◌}
use native.Mathlib.Nat.{mod-add-div', add-mul-mod_self_right, mod-eq_of_lt, pow-zero, pow-suc, dvd_of_mod-eq-zero, mod-eq-zero_of_dvd}
use native.Mathlib.Omega.{arith}
use Rattle.std.proofs.lemmas.Nat.{mul-pow}
use Rattle.numbers.specs.Congruences.{Cong}
use Rattle.numbers.proofs.Divisors.{dvd_make, quotient}

module _ {K : ℕ} where
  pub cong_eq : {x y : ℕ} → x ≡ y → Cong K x y
  cong_eq e = record { l = 0; r = 0; eq = omega arith }

  pub cong_sym : {x y : ℕ} → Cong K x y → Cong K y x
  cong_sym c = record { l = c.r; r = c.l; eq = sym c.eq }

  infixr 5 ◌⨾◌
  pub ◌⨾◌ : {x y z : ℕ} → Cong K x y → Cong K y z → Cong K x z
  c ⨾ d = record { l = c.l + d.l; r = c.r + d.r; eq = omega arith }

  pub cong_add : {x y x' y' : ℕ} → Cong K x y → Cong K x' y' → Cong K (x + x') (y + y')
  cong_add c d = record { l = c.l + d.l; r = c.r + d.r; eq = omega arith }

  pub cong_mul : {x y x' y' : ℕ} → Cong K x y → Cong K x' y' → Cong K (x * x') (y * y')
  cong_mul {x} {y} {x'} {y'} c d =
      record {
        l = x * d.l + c.l * x' + c.l * d.l * K;
        r = y * d.r + c.r * y' + c.r * d.r * K;
        eq = omega (arith, ap₂ (λ (s t : ℕ). s * t) c.eq d.eq);
      }

  pub cong_times : (c : ℕ) {x y : ℕ} → Cong K x y → Cong K (c * x) (c * y)
  cong_times c d = cong_mul (cong_eq {x = c} refl) d

  pub cong_pow : {x y : ℕ} (n : ℕ) → Cong K x y → Cong K (x ^ n) (y ^ n)
  cong_pow {x} {y} zero c = cong_eq (pow-zero x ∙ sym (pow-zero y))
  cong_pow {x} {y} (suc n) c = cong_eq (pow-suc x n) ⨾ cong_mul (cong_pow n c) c ⨾ cong_eq (sym (pow-suc y n))

pub pow_times : (a b n : ℕ) → (a * b) ^ n ≡ a ^ n * b ^ n
pow_times = mul-pow

-- what is added on both sides may be taken away
pub cong_cancel : {K : ℕ} (a : ℕ) {x y : ℕ} → Cong K (a + x) (a + y) → Cong K x y
cong_cancel a c = record { l = c.l; r = c.r; eq = omega (arith, c.eq) }

-- ---- remainders

pub cong_mod : (K a : ℕ) → Cong K a (a % K)
cong_mod K a = record { l = 0; r = a / K; eq = omega (arith, mod-add-div' a K) }

pub cong_same : {K x y : ℕ} → Cong K x y → x % K ≡ y % K
cong_same {K} {x} {y} c =
    sym (add-mul-mod_self_right x c.l K) ∙ ap (λ (t : ℕ). t % K) c.eq ∙ add-mul-mod_self_right y c.r K

pub same_cong : {K : ℕ} (x y : ℕ) → x % K ≡ y % K → Cong K x y
same_cong {K} x y e = cong_mod K x ⨾ cong_eq e ⨾ cong_sym (cong_mod K y)

-- two numbers below K that are congruent are equal
pub cong_small : {K x y : ℕ} → Cong K x y → x < K → y < K → x ≡ y
cong_small c p q = sym (mod-eq_of_lt p) ∙ cong_same c ∙ mod-eq_of_lt q

-- ---- divisors

pub cong_zero : {K x : ℕ} → Cong K x 0 → K ∣ x
cong_zero {K} {x} c = dvd_of_mod-eq-zero K (cong_same c ∙ mod-eq-zero_of_dvd K (dvd_make K 0 (omega arith)))

pub zero_cong : {K : ℕ} (x : ℕ) → K ∣ x → Cong K x 0
zero_cong {K} x h = let (q, e) = quotient K h in record { l = 0; r = q; eq = omega arith }

pub cong_dvd : {K : ℕ} (x y : ℕ) → x ≤ y → Cong K x y → K ∣ y - x
cong_dvd {K} x y le c = cong_zero (cong_cancel x (cong_eq (omega arith) ⨾ cong_sym c ⨾ cong_eq (omega arith)))

-- what is congruent modulo a number is so modulo its divisors
pub cong_down : {K : ℕ} (m : ℕ) {x y : ℕ} → m ∣ K → Cong K x y → Cong m x y
cong_down m h c =
    let (q, e) = quotient m h in
    record { l = c.l * q; r = c.r * q; eq = omega (arith, c.eq, ap (λ (t : ℕ). c.l * t) e, ap (λ (t : ℕ). c.r * t) e) }

-- a divisor of K divides both of two congruent numbers, or neither
pub cong_divisor : {K x y : ℕ} (d : ℕ) → d ∣ K → Cong K x y → d ∣ x → d ∣ y
cong_divisor {x = x} d h c p = cong_zero (cong_sym (cong_down d h c) ⨾ zero_cong x p)
