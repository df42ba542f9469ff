-- Which triples permute: in the odd form, those whose f1 shares no factor with K and whose f2 has every prime of K.
use mathlib.Core.Path.{◌≡◌, sym, ap, ◌∙◌, subst}
use mathlib.Core.Logic.{◌≢◌, ◌⊎◌, inl, inr}
use Prim.Native.Nat.{ℕ, ◌+◌, ◌-◌, ◌*◌, ◌/◌, ◌%◌, ◌<◌, ◌∣◌}
use native.Mathlib.Nat.{dvd_refl, dvd-zero, dvd-mul_right, dvd-mul_right_of_dvd, dvd-add_iff_left, eq-zero-or-pos, mul_comm, le_of_dvd, pos_of_dvd_of_pos, mul-le-mul_right, one-mul}
use native.Mathlib.Decide.{ℕ_discrete}
use native.Mathlib.Omega.{arith}
use mathlib.Core.Bool.{Bool, true, false}
use Rattle.numbers.specs.Divisors.{IsGcd, Coprime}
use Rattle.numbers.specs.Absorption.{Absorbed}
use Rattle.numbers.specs.Decision.{Decides}
use Rattle.numbers.proofs.Divisors.{factors_pos, dvd_make, quotient, euclid, unit_of, UnitOf, gcd_one, gcd_of}
use Rattle.numbers.proofs.Absorption.{Rest, rest_of, coprime_plus}
use Rattle.triples.specs.declared.Triple.{Triple}
use Rattle.permuting.specs.Formulas.{Permutes}
use Rattle.triples.specs.Shuffles.{f, InRange, Shuffle, odd_form, quadratic}
use Rattle.triples.proofs.Values.{slope, Clash, clash, apart}
use Rattle.acceptance.proofs.OddForm.{Form, odd_form_lem, form_permutes, permutes_form}

-- the rule, on a triple that is its own odd form
pub record Rule (t : Triple) : Type 0 where
  pub coprime : Coprime t.f1 t.k
  pub absorbed : Absorbed t.k t.f2

-- ---- enough: no difference below K is divided

pub rule_permutes : {t : Triple} → Rule t → Permutes (quadratic t)
rule_permutes {t} u =
    apart t
    (λ x d pos lt h.
    let dv : t.k ∣ d = euclid t.k (slope t x d) d (coprime_plus u.coprime u.absorbed (2 * x + d)) (subst (λ (n : ℕ). t.k ∣ n) (mul_comm d (slope t x d)) h) in
    omega (arith, le_of_dvd pos dv))

-- ---- needed: where the rule fails, two positions are written down

-- g from 3 on divides K and f1: K/g and K/g · (g - 1)
clash_divisor : (t : Triple) (n c h : ℕ) → t.k ≡ (n + 3) * c → t.f1 ≡ (n + 3) * h → 0 < c → Clash t
clash_divisor t n c h ek ef pos =
    record {
      x = c;
      d = c * (n + 1);
      some = omega arith;
      less = omega (arith, ek);
      product =
          dvd_make t.k ((n + 1) * (h + t.f2 * c))
          (ap (λ (a : ℕ). c * (n + 1) * (a + t.f2 * (2 * c + c * (n + 1)))) ef ∙ omega arith ∙ ap (λ (b : ℕ). b * ((n + 1) * (h + t.f2 * c))) (sym ek));
    }

-- 4 divides K and f1 is even: 0 and K/2
clash_half : (t : Triple) (n h : ℕ) → t.k ≡ 4 * n → t.f1 ≡ 2 * h → 0 < n → Clash t
clash_half t n h ek ef pos =
    record {
      x = 0;
      d = 2 * n;
      some = omega arith;
      less = omega (arith, ek);
      product =
          dvd_make t.k (h + t.f2 * n)
          (ap (λ (a : ℕ). 2 * n * (a + t.f2 * (2 * 0 + 2 * n))) ef ∙ omega arith ∙ ap (λ (b : ℕ). b * (h + t.f2 * n)) (sym ek));
    }

pub clash_gcd : (t : Triple) (g : ℕ) → 0 < t.k → (t.k % 2 ≡ 0 → t.f1 % 2 ≡ 0 → t.k % 4 ≡ 0) → IsGcd t.f1 t.k g → g ≢ 1 → Clash t
clash_gcd t g pos odd is ne = go (ℕ_discrete g 2)
  where
    go : Dec (g ≡ 2) → Clash t
    go (yes e) =
        let (a, ea) = quotient 2 (subst (λ (n : ℕ). n ∣ t.f1) e is.left) in
        let (b, eb) = quotient 2 (subst (λ (n : ℕ). n ∣ t.k) e is.right) in
        let four : t.k % 4 ≡ 0 = odd (omega arith) (omega arith) in
        clash_half t (t.k / 4) a (omega arith) ea (omega arith)
    go (no e) =
        let (a, ea) = quotient g is.left in
        let (b, eb) = quotient g is.right in
        let eg : g ≡ g - 3 + 3 = omega (arith, pos_of_dvd_of_pos is.right pos) in
        clash_divisor t (g - 3) b a (eb ∙ ap (λ (n : ℕ). n * b) eg) (ea ∙ ap (λ (n : ℕ). n * a) eg) (factors_pos t.k g b pos eb).1

scaled : (s m c u : ℕ) → u ≡ m * c → s * u ≡ m * s * c
scaled s m c u e = ap (λ (n : ℕ). s * n) e ∙ omega arith

-- m > 1 shares nothing with f2, and K is m·s: s apart, where twice w is f1 + f2·s modulo m
clash_part : (t : Triple) (m s w e : ℕ) → t.k ≡ m * s → 1 < m → 0 < s → Coprime m t.f2 → 2 * w ≡ t.f1 + t.f2 * s + e * m → Clash t
clash_part t m s w e ek big pos co ew = go (eq-zero-or-pos t.f2)
  where
    go : (t.f2 ≡ 0) ⊎ (0 < t.f2) → Clash t
    go (inl z) = absurd (omega (arith, co m (dvd_refl m) (subst (λ (n : ℕ). m ∣ n) (sym z) (dvd-zero m))))
    go (inr p) = with_unit (unit_of m t.f2 (omega arith) p co)
      where
        slope_divided : (x y : ℕ) → x * m ≡ 1 + y * t.f2 → m ∣ slope t (y * w) s
        slope_divided x y over =
            let xw : x * m * w ≡ (1 + y * t.f2) * w = ap (λ (n : ℕ). n * w) over in
            (dvd-add_iff_left m {m = slope t (y * w) s} {n = m * e} (dvd-mul_right m e)).1 (dvd_make m (2 * (x * w)) (omega arith))

        from : (x : ℕ) → (c : ℕ) × (slope t x s ≡ m * c) → Clash t
        from x (c, ec) =
            record {
              x = x;
              d = s;
              some = pos;
              less = omega (arith, ek, mul-le-mul_right s big);
              product = dvd_make t.k c (scaled s m c (slope t x s) ec ∙ ap (λ (n : ℕ). n * c) (sym ek));
            }

        with_unit : UnitOf m t.f2 → Clash t
        with_unit u = from (u.y * w) (quotient m (slope_divided u.x u.y u.over))

-- ---- parity

pub even : (n : ℕ) → n % 2 ≡ 0 → 2 ∣ n
even n e = dvd_make 2 (n / 2) (omega arith)

pub odd_if_not : (n : ℕ) → ¬ (2 ∣ n) → n % 2 ≡ 1
odd_if_not n h = pick (ℕ_discrete (n % 2) 0)
  where
    pick : Dec (n % 2 ≡ 0) → n % 2 ≡ 1
    pick (yes z) = absurd (h (even n z))
    pick (no z) = omega arith

pub odd_coprime : (n : ℕ) → n % 2 ≡ 1 → Coprime 2 n
odd_coprime n e d p q = go (ℕ_discrete d 2) (ℕ_discrete d 0)
  where
    go : Dec (d ≡ 2) → Dec (d ≡ 0) → d ≡ 1
    go (yes e2) z = absurd (let (c, ec) = quotient 2 (subst (λ (k : ℕ). k ∣ n) e2 q) in omega arith)
    go (no e2) (yes z) = absurd (omega (arith, pos_of_dvd_of_pos p (omega arith)))
    go (no e2) (no z) = omega (arith, le_of_dvd {n = 2} (omega arith) p)

odd_times_odd : (a b : ℕ) → a % 2 ≡ 1 → b % 2 ≡ 1 → a * b % 2 ≡ 1
odd_times_odd a b p q =
    let ea : a ≡ 2 * (a / 2) + 1 = omega arith in
    let eb : b ≡ 2 * (b / 2) + 1 = omega arith in
    let e : a * b ≡ (2 * (a / 2) + 1) * (2 * (b / 2) + 1) = cc in
    omega arith

pub clash_rest : (t : Triple) (m : ℕ) → 0 < t.k → Coprime t.f1 t.k → Rest t.k t.f2 m → m ≢ 1 → Clash t
clash_rest t m pos co r ne = go r.other r.whole r.absorbed (ℕ_discrete (m % 2) 1) (ℕ_discrete ((t.f1 + t.f2 * r.other) % 2) 0)
  where
    go : (s : ℕ) → t.k ≡ m * s → Absorbed s t.f2 → Dec (m % 2 ≡ 1) → Dec ((t.f1 + t.f2 * s) % 2 ≡ 0) → Clash t
    go s ek ab odd (yes e) =
        clash_part t m s ((t.f1 + t.f2 * s) / 2) 0 ek (omega (arith, factors_pos t.k m s pos ek)) (factors_pos t.k m s pos ek).1 r.coprime (omega arith)
    go s ek ab (yes odd) (no e) =
        clash_part t m s ((t.f1 + t.f2 * s + m) / 2) 1 ek (omega (arith, factors_pos t.k m s pos ek)) (factors_pos t.k m s pos ek).1 r.coprime (omega arith)
    go s ek ab (no odd) (no e) =
        let dm : 2 ∣ m = even m (omega arith) in
        let dk : 2 ∣ t.k = subst (λ (n : ℕ). 2 ∣ n) (sym ek) (dvd-mul_right_of_dvd 2 dm s) in
        let o2 : t.f2 % 2 ≡ 1 = odd_if_not t.f2 (λ h. omega (arith, r.coprime 2 dm h)) in
        let o1 : t.f1 % 2 ≡ 1 = odd_if_not t.f1 (λ d. omega (arith, co 2 d dk)) in
        let os : s % 2 ≡ 1 = odd_if_not s (λ h. omega (arith, ab 2 h (odd_coprime t.f2 o2))) in
        absurd (omega (arith, odd_times_odd t.f2 s o2 os))

-- a part that is 1 leaves all of K absorbed
all_absorbed : {k g m : ℕ} → Rest k g m → m ≡ 1 → Absorbed k g
all_absorbed {k} {g} r e =
    subst (λ (n : ℕ). Absorbed n g) (sym (r.whole ∙ ap (λ (n : ℕ). n * r.other) e ∙ one-mul r.other)) r.absorbed

-- ---- the rule and the definition

-- a triple that permutes keeps the rule in its odd form
pub permutes_rule : {t : Triple} → InRange t → Permutes (quadratic t) → Rule (odd_form t)
permutes_rule {t} range permutes = record { coprime = coprime; absorbed = absorbed (rest_of (odd_form t).k (odd_form t).f2 pos) }
  where
    form : Form t (odd_form t)
    form = odd_form_lem t range

    pos : 0 < (odd_form t).k
    pos = omega (arith, form.range.low)

    never : ¬ Clash (odd_form t)
    never c = clash c (permutes_form form permutes)

    coprime : Coprime (odd_form t).f1 (odd_form t).k
    coprime = pick (gcd_of (odd_form t).k (odd_form t).f1 pos)
      where
        pick : (g : ℕ) × IsGcd (odd_form t).k (odd_form t).f1 g → Coprime (odd_form t).f1 (odd_form t).k
        pick (g, is) = decide (ℕ_discrete g 1)
          where
            turned : IsGcd (odd_form t).f1 (odd_form t).k g
            turned = record { left = is.right; right = is.left; greatest = λ d p q. is.greatest d q p }

            decide : Dec (g ≡ 1) → Coprime (odd_form t).f1 (odd_form t).k
            decide (yes e) = gcd_one turned e
            decide (no e) = absurd (never (clash_gcd (odd_form t) g pos form.odd turned e))

    absorbed : (m : ℕ) × Rest (odd_form t).k (odd_form t).f2 m → Absorbed (odd_form t).k (odd_form t).f2
    absorbed (m, r) = decide (ℕ_discrete m 1)
      where
        decide : Dec (m ≡ 1) → Absorbed (odd_form t).k (odd_form t).f2
        decide (yes e) = all_absorbed r e
        decide (no e) = absurd (never (clash_rest (odd_form t) m pos coprime r e))

pub rule_enough : {t : Triple} → InRange t → Rule (odd_form t) → Permutes (quadratic t)
rule_enough {t} range u = form_permutes (odd_form_lem t range) (rule_permutes u)

-- ---- as the code tests it

one_if_true : Bool → ℕ
one_if_true true = 1
one_if_true false = 0

pub refused_by_gcd : {t o : Triple} (g : ℕ) → InRange t → o ≡ odd_form t → IsGcd o.f1 o.k g → g ≢ 1 → Decides (Permutes (quadratic t)) false
unfolding one_if_true
refused_by_gcd {t} {o} g range e is ne =
    record {
      yes_only_if = λ z. let n : ◌≡◌ {A = ℕ} 0 1 = ap one_if_true z in absurd (omega arith);
      no_only_if = λ _ permutes. ne (only_one (permutes_rule range permutes));
    }
  where
    only_one : Rule (odd_form t) → g ≡ 1
    only_one u = (subst (λ (w : Triple). Rule w) (sym e) u).coprime g is.left is.right

pub decided_by_absorption : {t o : Triple} (g : ℕ) {b : Bool} → InRange t → o ≡ odd_form t → IsGcd o.f1 o.k g → g ≡ 1
    → Decides (Absorbed o.k o.f2) b → Decides (Permutes (quadratic t)) b
decided_by_absorption {t} {o} g range e is one d =
    record {
      yes_only_if =
          λ z. rule_enough range (subst (λ (w : Triple). Rule w) e (record { coprime = gcd_one is one; absorbed = d.yes_only_if z }));
      no_only_if = λ z permutes. d.no_only_if z (subst (λ (w : Triple). Rule w) (sym e) (permutes_rule range permutes)).absorbed;
    }

-- ---- the odd form of a shuffle, as code holds it

-- f1 is a unit, and every prime of K divides f2
pub record OddUnit (t o : Triple) : Type 0 where
  pub length : o.k ≡ t.k
  pub range : InRange o
  pub coprime : Coprime o.f1 o.k
  pub absorbed : Absorbed o.k o.f2
  pub same : (x : ℕ) → f o x ≡ f t x

pub odd_unit : {t o : Triple} → Shuffle t → o ≡ odd_form t → OddUnit t o
odd_unit {t} {o} s e = subst (λ (w : Triple). OddUnit t w) (sym e) unit
  where
    form : Form t (odd_form t)
    form = odd_form_lem t s.range

    rule : Rule (odd_form t)
    rule = permutes_rule s.range s.permutes

    unit : OddUnit t (odd_form t)
    unit = record { length = form.length; range = form.range; coprime = rule.coprime; absorbed = rule.absorbed; same = form.same }
