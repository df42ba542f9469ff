-- Divisors, Euclid's algorithm and Bezout's equation.
use mathlib.Core.Path.{◌≡◌, refl, sym, ap, ◌∙◌, subst, subst₂}
use mathlib.Core.Logic.{◌⊎◌, inl, inr, ◌↔◌}
use Prim.Native.Nat.{ℕ, zero, suc, ◌+◌, ◌-◌, ◌*◌, ◌/◌, ◌%◌, ◌≤◌, ◌<◌, ◌∣◌}
use native.Mathlib.Nat.{dvd_refl, dvd-zero, dvd_trans, dvd_antisymm, dvd-mod_iff, dvd-mul_right, dvd-mul_left_of_dvd, dvd-add, dvd-add_iff_left, dvd_of_mul-dvd-mul_right, mul-dvd-mul, mul-dvd-mul_left, mul-dvd-mul_right, mul-div_cancel', eq-zero-or-pos, one-dvd, mul_comm, eq-one_of_dvd-one, pos_of_dvd_of_pos, div-mul_cancel}
use native.Mathlib.Decide.{dec_lt}
use native.Mathlib.Omega.{arith}
use Rattle.numbers.specs.Divisors.{IsGcd, Coprime}

-- ---- what a divisor is, by a product

pub dvd_make : (a c : ℕ) {b : ℕ} → b ≡ a * c → a ∣ b
dvd_make a c e = ∣ (c, e) ∣₁

pub quotient : (a : ℕ) {b : ℕ} → a ∣ b → (c : ℕ) × (b ≡ a * c)
quotient a {b} h = (b / a, sym (mul-div_cancel' a h))

-- ---- the steps of Euclid's algorithm

pub gcd_end : (a b : ℕ) → b ≡ 0 → IsGcd a b a
gcd_end a b z =
    record { left = dvd_refl a; right = subst (λ (k : ℕ). a ∣ k) (sym z) (dvd-zero a); greatest = λ d h k. h }

pub gcd_step : (a b g : ℕ) → IsGcd b (a % b) g → IsGcd a b g
gcd_step a b g h =
    record {
      left = (dvd-mod_iff g h.left).0 h.right;
      right = h.left;
      greatest = λ d p q. h.greatest d q ((dvd-mod_iff d q).1 p);
    }

pub gcd_unique : (a b g h : ℕ) → IsGcd a b g → IsGcd a b h → g ≡ h
gcd_unique a b g h p q = dvd_antisymm (q.greatest g p.left p.right) (p.greatest h q.left q.right)

pub gcd_one : {a b g : ℕ} → IsGcd a b g → g ≡ 1 → Coprime a b
gcd_one h e d p q = eq-one_of_dvd-one (subst (λ (n : ℕ). d ∣ n) e (h.greatest d p q))

pub coprime_swap : {a b : ℕ} → Coprime a b → Coprime b a
coprime_swap h d p q = h d q p

-- ---- Bezout: a common divisor that is a difference of multiples, either way round

pub record Bezout (a b : ℕ) : Type 0 where
  pub g : ℕ
  pub left : g ∣ a
  pub right : g ∣ b
  pub x : ℕ
  pub y : ℕ
  pub over : x * a ≡ g + y * b
  pub x' : ℕ
  pub y' : ℕ
  pub under : x' * b ≡ g + y' * a

bezout_self : (a : ℕ) → Bezout a a
bezout_self a =
    record { g = a; left = dvd_refl a; right = dvd_refl a; x = 1; y = 0; over = omega arith; x' = 1; y' = 0; under = omega arith }

bezout_swap : {a b : ℕ} → Bezout a b → Bezout b a
bezout_swap r =
    record
    { g = r.g; left = r.right; right = r.left; x = r.x'; y = r.y'; over = r.under; x' = r.x; y' = r.y; under = r.over }

bezout_more : (a b : ℕ) → Bezout a b → Bezout (a + b) b
bezout_more a b r =
    record {
      g = r.g;
      left = dvd-add r.g r.left r.right;
      right = r.right;
      x = r.x;
      y = r.y + r.x;
      over = omega arith;
      x' = r.x' + r.y';
      y' = r.y';
      under = omega arith;
    }

bezout_times : {a b : ℕ} (c : ℕ) → Bezout a b → Bezout (c * a) (c * b)
bezout_times c r =
    record {
      g = c * r.g;
      left = mul-dvd-mul_left r.g c r.left;
      right = mul-dvd-mul_left r.g c r.right;
      x = r.x;
      y = r.y;
      over = omega (arith, ap (λ (t : ℕ). c * t) r.over);
      x' = r.x';
      y' = r.y';
      under = omega (arith, ap (λ (t : ℕ). c * t) r.under);
    }

bezout_below : (n a b : ℕ) → 0 < a → 0 < b → a + b ≤ n → Bezout a b
bezout_below zero a b p q h = absurd (omega arith)
bezout_below (suc n) a b p q h = go (λ x y px py le. bezout_below n x y px py le) (dec_lt a b) (dec_lt b a)
  where
    go : ((x y : ℕ) → 0 < x → 0 < y → x + y ≤ n → Bezout x y) → Dec (a < b) → Dec (b < a) → Bezout a b
    go ih (yes l) e =
        subst (λ (k : ℕ). Bezout a k) (omega arith) (bezout_swap (bezout_more (b - a) a (ih (b - a) a (omega arith) p (omega arith))))
    go ih (no l) (yes m) =
        subst (λ (k : ℕ). Bezout k b) (omega arith) (bezout_more (a - b) b (ih (a - b) b (omega arith) q (omega arith)))
    go ih (no l) (no m) = subst (λ (k : ℕ). Bezout a k) (omega arith) (bezout_self a)

pub bezout : (a b : ℕ) → 0 < a → 0 < b → Bezout a b
bezout a b p q = bezout_below (a + b) a b p q (omega arith)

-- ---- what coprime numbers do

pub coprime_dvd : {a b : ℕ} (d : ℕ) → d ∣ a → Coprime a b → Coprime d b
coprime_dvd d h co e p q = co e (dvd_trans e p h) q

-- 1 is a difference of multiples
pub record UnitOf (a b : ℕ) : Type 0 where
  pub x : ℕ
  pub y : ℕ
  pub over : x * a ≡ 1 + y * b

pub unit_of : (a b : ℕ) → 0 < a → 0 < b → Coprime a b → UnitOf a b
unit_of a b p q co =
    let r = bezout a b p q in
    let e : r.g ≡ 1 = co r.g r.left r.right in
    record { x = r.x; y = r.y; over = omega arith }

-- Euclid's lemma
pub euclid : (a b c : ℕ) → Coprime a b → a ∣ b * c → a ∣ c
euclid a b c co h = go (eq-zero-or-pos a) (eq-zero-or-pos b)
  where
    go : (a ≡ 0) ⊎ (0 < a) → (b ≡ 0) ⊎ (0 < b) → a ∣ c
    go (inl z) y =
        let b1 : b ≡ 1 = co b (subst (λ (k : ℕ). b ∣ k) (sym z) (dvd-zero b)) (dvd_refl b) in
        subst (λ (k : ℕ). a ∣ k) (ap (λ (k : ℕ). k * c) b1 ∙ omega arith) h
    go (inr p) (inl z) =
        let a1 : a ≡ 1 = co a (dvd_refl a) (subst (λ (k : ℕ). a ∣ k) (sym z) (dvd-zero a)) in
        subst (λ (k : ℕ). k ∣ c) (sym a1) (one-dvd c)
    go (inr p) (inr q) =
        let u = unit_of b a q p (coprime_swap co) in
        let (m, e) = quotient a h in
        (dvd-add_iff_left a {m = c} {n = a * (u.y * c)} (dvd-mul_right a (u.y * c))).1
        (dvd_make a (u.x * m) (fact u.x u.y m u.over e))
      where
        fact : (x y m : ℕ) → x * b ≡ 1 + y * a → b * c ≡ a * m → c + a * (y * c) ≡ a * (x * m)
        fact x y m e f =
            let g : x * b * c ≡ (1 + y * a) * c = ap (λ (k : ℕ). k * c) e in
            let h : x * (b * c) ≡ x * (a * m) = ap (λ (k : ℕ). x * k) f in
            omega arith

pub factors_pos : (k m s : ℕ) → 0 < k → k ≡ m * s → (0 < m) × (0 < s)
factors_pos k m s pos e =
    (pos_of_dvd_of_pos (dvd_make m s e) pos, pos_of_dvd_of_pos (dvd_make s m (e ∙ mul_comm m s)) pos)

-- ---- every two numbers have a greatest common divisor

pub bezout_gcd : {a b : ℕ} (r : Bezout a b) → IsGcd a b r.g
bezout_gcd {a} {b} r =
    record {
      left = r.left;
      right = r.right;
      greatest =
          λ d p q. (dvd-add_iff_left d {m = r.g} {n = r.y * b} (dvd-mul_left_of_dvd d q r.y)).1
          (subst (λ (n : ℕ). d ∣ n) r.over (dvd-mul_left_of_dvd d p r.x));
    }

pub gcd_of : (a b : ℕ) → 0 < a → (g : ℕ) × IsGcd a b g
gcd_of a b p = go (eq-zero-or-pos b)
  where
    go : (b ≡ 0) ⊎ (0 < b) → (g : ℕ) × IsGcd a b g
    go (inl z) = (a, gcd_end a b z)
    go (inr q) = let r = bezout a b p q in (r.g, bezout_gcd r)

-- ---- two numbers and their greatest common divisor

-- divided by it, they share no factor
pub gcd_parts : (a b g m n : ℕ) → 0 < g → IsGcd a b g → m * g ≡ a → n * g ≡ b → Coprime m n
gcd_parts a b g m n pos is ea eb d p q =
    eq-one_of_dvd-one
    (dvd_of_mul-dvd-mul_right {k = g} d {n = 1} pos
    (subst (λ (t : ℕ). d * g ∣ t) (omega arith)
    (is.greatest (d * g) (subst (λ (t : ℕ). d * g ∣ t) ea (mul-dvd-mul_right d p g)) (subst (λ (t : ℕ). d * g ∣ t) eb (mul-dvd-mul_right d q g)))))

-- multiplied by c, so is it
pub gcd_times : (c a b g : ℕ) → 0 < a → 0 < b → IsGcd a b g → IsGcd (c * a) (c * b) (c * g)
unfolding bezout_times
gcd_times c a b g p q is =
    let r = bezout a b p q in
    subst (λ (t : ℕ). IsGcd (c * a) (c * b) (c * t)) (gcd_unique a b r.g g (bezout_gcd r) is) (bezout_gcd (bezout_times c r))

-- a divided by it divides exactly the x for which a divides b·x
pub gcd_exact : (a b g m x : ℕ) → 0 < a → IsGcd a b g → m * g ≡ a → (a ∣ b * x) ↔ (m ∣ x)
gcd_exact a b g m x pos is e = (λ h. euclid m n x (gcd_parts a b g m n parts.1 is e eb) (cancel h), expand)
  where
    parts : (0 < m) × (0 < g)
    parts = factors_pos a m g pos (sym e)

    n : ℕ
    n = b / g

    eb : n * g ≡ b
    eb = div-mul_cancel g is.right

    cancel : a ∣ b * x → m ∣ n * x
    cancel h = dvd_of_mul-dvd-mul_right {k = g} m {n = n * x} parts.1 (subst₂ (λ (s t : ℕ). s ∣ t) (sym e) (omega (arith, ap (λ (t : ℕ). t * x) eb)) h)

    expand : m ∣ x → a ∣ b * x
    expand h = subst₂ (λ (s t : ℕ). s ∣ t) (mul_comm g m ∙ e) refl (mul-dvd-mul g m is.right h)
