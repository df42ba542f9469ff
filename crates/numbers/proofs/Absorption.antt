-- When every prime of one number divides another: by a power, by squares, and the part of a number that is left when it fails.
use mathlib.Core.Path.{◌≡◌, sym, ap, ◌∙◌, subst, subst₂}
use Prim.Native.Nat.{ℕ, zero, suc, ◌+◌, ◌*◌, ◌/◌, ◌%◌, ◌^◌, ◌≤◌, ◌<◌, ◌∣◌}
use native.Mathlib.Nat.{dvd_refl, dvd-zero, dvd_trans, dvd-mod_iff, dvd-add_iff_left, dvd-mul_right_of_dvd, eq-one_of_dvd-one, one-dvd, mul_comm, mul_assoc, mul-dvd-mul, pow-suc, pow-zero, div-mul_cancel, mul-le-mul_right, mod-eq_of_lt, mod-eq-zero_of_dvd}
use native.Mathlib.Decide.{ℕ_discrete}
use native.Mathlib.Omega.{arith}
use lib.Pow.{pow-add}
use lib.Dec.{eqb}
use borrow.Author.Tests.{eqb-true, eqb-false}
use Rattle.std.proofs.lemmas.Nat.{mul-pow}
use Rattle.numbers.specs.Divisors.{IsGcd, Coprime}
use Rattle.numbers.specs.Decision.{Decides}
use Rattle.numbers.specs.Absorption.{Absorbed}
use Rattle.numbers.proofs.Divisors.{dvd_make, gcd_of, gcd_one, euclid, coprime_dvd, factors_pos}
use Rattle.numbers.proofs.Congruences.{cong_mod, cong_sym, cong_pow, cong_zero, zero_cong, ◌⨾◌, cong_eq}

-- ---- by a power

pub absorbed_zero : (k : ℕ) → Absorbed k 0
absorbed_zero k d p co = co d (dvd_refl d) (dvd-zero d)

pub absorbed_dvd : {k f : ℕ} (d : ℕ) → d ∣ k → Absorbed k f → Absorbed d f
absorbed_dvd d h ab e p co = ab e (dvd_trans e p h) co

-- what holds of k if it shares nothing with f, and otherwise comes of k divided by what they share, which is half of k at most, holds of every
-- k up to 2 to the n
by_shared : (f : ℕ) (P : ℕ → ℕ → Type 0) → ((n k : ℕ) → Coprime k f → P n k) → ((n k g : ℕ) → IsGcd k f g → P n (k / g) → P (suc n) k)
    → (n k : ℕ) → 0 < k → k ≤ 2 ^ n → P n k
by_shared f P end step zero k pos le = end 0 k (λ d p q. eq-one_of_dvd-one (subst (λ (m : ℕ). d ∣ m) (omega (arith, pow-zero 2)) p))
by_shared f P end step (suc n) k pos le = go (gcd_of k f pos) (by_shared f P end step n)
  where
    go : (g : ℕ) × IsGcd k f g → ((h : ℕ) → 0 < h → h ≤ 2 ^ n → P n h) → P (suc n) k
    go (g, is) below = split (ℕ_discrete g 1)
      where
        parts : (0 < k / g) × (0 < g)
        parts = factors_pos k (k / g) g pos (sym (div-mul_cancel g is.left))

        split : Dec (g ≡ 1) → P (suc n) k
        split (yes e) = end (suc n) k (gcd_one is e)
        split (no e) =
            let two : 2 ≤ g = omega (arith, parts) in
            let twice = mul-le-mul_right (k / g) two in
            step n k g is (below (k / g) parts.0 (omega (arith, pow-suc 2 n, div-mul_cancel g is.left, twice)))

-- k at most 2 to the n holds no prime more than n times
pub absorbed_power : (n k f : ℕ) → 0 < k → k ≤ 2 ^ n → Absorbed k f → k ∣ f ^ n
absorbed_power n k f = by_shared f (λ n k. Absorbed k f → k ∣ f ^ n) end step n k
  where
    end : (n k : ℕ) → Coprime k f → Absorbed k f → k ∣ f ^ n
    end n k co ab = subst (λ (m : ℕ). m ∣ f ^ n) (sym (ab k (dvd_refl k) co)) (one-dvd (f ^ n))

    step : (n k g : ℕ) → IsGcd k f g → (Absorbed (k / g) f → k / g ∣ f ^ n) → Absorbed k f → k ∣ f ^ suc n
    step n k g is below ab =
        let whole : k / g * g ≡ k = div-mul_cancel g is.left in
        subst₂ (λ (a b : ℕ). a ∣ b) whole (sym (pow-suc f n))
        (mul-dvd-mul (k / g) g (below (absorbed_dvd (k / g) (dvd_make (k / g) g (sym whole)) ab)) is.right)

-- the other way round, at any exponent
pub power_absorbed : (n k f : ℕ) → k ∣ f ^ n → Absorbed k f
power_absorbed n k f h d p co = go n (dvd_trans d p h)
  where
    go : (n : ℕ) → d ∣ f ^ n → d ≡ 1
    go zero q = eq-one_of_dvd-one (subst (λ (m : ℕ). d ∣ m) (pow-zero f) q)
    go (suc n) q = go n (euclid d f (f ^ n) co (subst (λ (m : ℕ). d ∣ m) (pow-suc f n ∙ mul_comm (f ^ n) f) q))

-- where a shares nothing with k, and f absorbs k, no multiple of f added to a brings a common factor
pub coprime_plus : {k a f : ℕ} → Coprime a k → Absorbed k f → (n : ℕ) → Coprime k (a + f * n)
coprime_plus {k} {a} {f} co ab n d p q =
    ab d p (λ e r s. co e ((dvd-add_iff_left e {m = a} {n = f * n} (dvd-mul_right_of_dvd e s n)).1 (dvd_trans e r q)) (dvd_trans e r p))

-- ---- by squares

-- a square is absorbed with its root
pub absorbed_root : (k x : ℕ) → Absorbed k (x * x % k) → Absorbed k x
absorbed_root k x ab d p co =
    ab d p (λ e q r. co e q (euclid e x x (coprime_dvd e q co) ((dvd-mod_iff e (dvd_trans e q p)).0 r)))

pub square_power : (k x n : ℕ) → k ∣ x ^ (n + n) → k ∣ (x * x % k) ^ n
square_power k x n h =
    cong_zero
    (cong_pow n (cong_sym (cong_mod k (x * x))) ⨾ cong_eq (mul-pow x x n ∙ sym (pow-add x n n)) ⨾ zero_cong (x ^ (n + n)) h)

-- four squares in a row decide
pub squares_decide : (k f a b c d : ℕ) → 0 < k → k ≤ 8192 → a ≡ f * f % k → b ≡ a * a % k → c ≡ b * b % k → d ≡ c * c % k → d < k → Decides (Absorbed k f) (eqb d 0)
squares_decide k f a b c d pos le ea eb ec ed lt =
    record {
      yes_only_if = λ t. up f a ea (up a b eb (up b c ec (up c d ed (subst (λ (n : ℕ). Absorbed k n) (sym (eqb-true d 0 t)) (absorbed_zero k)))));
      no_only_if =
          λ t ab.
          let power : k ∣ f ^ 16 = absorbed_power 16 k f pos (omega arith) ab in
          let last : k ∣ d ^ 1 = down c d 1 ed (down b c 2 ec (down a b 4 eb (down f a 8 ea power))) in
          eqb-false d 0 t (zero_below (subst (λ (n : ℕ). k ∣ n) (pow_one d) last));
    }
  where
    up : (x y : ℕ) → y ≡ x * x % k → Absorbed k y → Absorbed k x
    up x y e ab = absorbed_root k x (subst (λ (n : ℕ). Absorbed k n) e ab)

    down : (x y n : ℕ) → y ≡ x * x % k → k ∣ x ^ (n + n) → k ∣ y ^ n
    down x y n e h = subst (λ (m : ℕ). k ∣ m ^ n) (sym e) (square_power k x n h)

    pow_one : (x : ℕ) → x ^ 1 ≡ x
    pow_one x = pow-suc x 0 ∙ omega (arith, ap (λ (t : ℕ). t * x) (pow-zero x))

    zero_below : k ∣ d → d ≡ 0
    zero_below h = sym (mod-eq_of_lt lt) ∙ mod-eq-zero_of_dvd k h

-- ---- the part of k that shares nothing with f

-- k is r times other, where r shares nothing with f, and f absorbs other
pub record Rest (k f r : ℕ) : Type 0 where
  pub other : ℕ
  pub whole : k ≡ r * other
  pub coprime : Coprime r f
  pub absorbed : Absorbed other f

rest_end : (k f : ℕ) → Coprime k f → Rest k f k
rest_end k f co = record { other = 1; whole = omega arith; coprime = co; absorbed = λ d p _. eq-one_of_dvd-one p }

rest_step : (k f g r : ℕ) → IsGcd k f g → Rest (k / g) f r → Rest k f r
rest_step k f g r h t =
    record {
      other = t.other * g;
      whole = sym (div-mul_cancel g h.left) ∙ ap (λ (n : ℕ). n * g) t.whole ∙ mul_assoc r t.other g;
      coprime = t.coprime;
      absorbed =
          λ d p co. t.absorbed d
          (euclid d g t.other (λ e a b. co e a (dvd_trans e b h.right)) (subst (λ (n : ℕ). d ∣ n) (mul_comm t.other g) p))
          co;
    }

pub rest_of : (k f : ℕ) → 0 < k → (r : ℕ) × Rest k f r
rest_of k f pos =
    by_shared f (λ _ k. (r : ℕ) × Rest k f r) (λ _ k co. (k, rest_end k f co)) (λ _ k g is (r, t). (r, rest_step k f g r is t)) k k pos
    (omega (arith, below_power k))
  where
    below_power : (n : ℕ) → n < 2 ^ n
    below_power zero = omega (arith, pow-zero 2)
    below_power (suc n) = omega (arith, pow-suc 2 n, below_power n)
