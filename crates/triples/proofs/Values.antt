-- When two positions share a value of f: by the difference of the two values, which is a product.
use mathlib.Core.Path.{◌≡◌, refl, sym, ap, ◌∙◌}
use Prim.Native.Nat.{ℕ, ◌+◌, ◌-◌, ◌*◌, ◌/◌, ◌%◌, ◌<◌, ◌∣◌}
use native.Mathlib.Nat.{dvd-mul_right, dvd-mul_right_of_dvd, div-add-mod, mod-lt, le_of_dvd}
use native.Mathlib.Omega.{arith}
use Rattle.numbers.proofs.Congruences.{cong_eq, cong_sym, cong_mod, cong_mul, cong_times, cong_same, same_cong, cong_zero, zero_cong, cong_cancel, cong_add, cong_dvd, ◌⨾◌}
use Rattle.numbers.proofs.Residues.{Respects}
use Rattle.triples.specs.declared.Triple.{Triple}
use Rattle.permuting.specs.Formulas.{Permutes}
use Rattle.permuting.proofs.Formulas.{permutes_apart}
use Rattle.triples.specs.Shuffles.{triple, f, quadratic}

-- f before the remainder
abbrev pub sum : Triple → ℕ → ℕ
sum t x = t.f1 * x + t.f2 * (x * x)

-- f1 + f2·(x + y), at y = x + d
abbrev pub slope : Triple → ℕ → ℕ → ℕ
slope t x d = t.f1 + t.f2 * (2 * x + d)

rise : (t : Triple) (x d : ℕ) → sum t (x + d) ≡ sum t x + d * slope t x d
rise t x d = omega arith

pub differ : (t : Triple) (x d : ℕ) → f t x ≡ f t (x + d) → t.k ∣ d * slope t x d
differ t x d e =
    cong_zero (cong_cancel (sum t x) (cong_eq (sym (rise t x d)) ⨾ same_cong (sum t (x + d)) (sum t x) (sym e) ⨾ cong_eq (omega arith)))

pub agree : (t : Triple) (x d : ℕ) → t.k ∣ d * slope t x d → f t x ≡ f t (x + d)
agree t x d h =
    cong_same (cong_eq {x = sum t x} {y = sum t x + 0} (omega arith) ⨾ cong_add {x = sum t x} (cong_eq refl) (cong_sym (zero_cong (d * slope t x d) h)) ⨾ cong_eq (sym (rise t x d)))

-- modulo any number, what the sum is depends on the remainders of the position and of the coefficients alone
pub sum_respects : (t : Triple) (m : ℕ) → Respects (sum t) m
sum_respects t m x y e =
    let c = same_cong x y e in cong_same (cong_add (cong_times t.f1 c) (cong_times t.f2 (cong_mul c c)))

pub reduced : (m f1 f2 x : ℕ) → f (triple m (f1 % m) (f2 % m)) x ≡ f (triple m f1 f2) x
reduced m f1 f2 x =
    cong_same (cong_add (cong_mul (cong_sym (cong_mod m f1)) (cong_eq {x = x} refl)) (cong_mul (cong_sym (cong_mod m f2)) (cong_eq {x = x * x} refl)))

-- f depends on the remainder of the position alone
pub wrap : (t : Triple) (x : ℕ) → f t (x % t.k) ≡ f t x
wrap t x =
    agree t (x % t.k) (t.k * (x / t.k)) (dvd-mul_right_of_dvd t.k (dvd-mul_right t.k (x / t.k)) (slope t (x % t.k) (t.k * (x / t.k))))
    ∙ ap (λ (n : ℕ). f t n) (omega (arith, div-add-mod x t.k))

-- ---- two positions from a difference, and none from no difference

-- a difference below K at which the two values agree
pub record Clash (t : Triple) : Type 0 where
  pub x : ℕ
  pub d : ℕ
  pub some : 0 < d
  pub less : d < t.k
  pub product : t.k ∣ d * slope t x d

pub clash : {t : Triple} → Clash t → ¬ Permutes (quadratic t)
clash {t} c permutes =
    let K : ℕ = t.k in
    let same : f t (c.x % t.k) ≡ f t ((c.x + c.d) % t.k) = wrap t c.x ∙ agree t c.x c.d c.product ∙ sym (wrap t (c.x + c.d)) in
    let one : c.x % t.k ≡ (c.x + c.d) % t.k =
    permutes (c.x % t.k) ((c.x + c.d) % t.k) (mod-lt c.x (omega (arith, c.less))) (mod-lt (c.x + c.d) (omega (arith, c.less))) same in
    let dv : t.k ∣ c.x + c.d - c.x = cong_dvd c.x (c.x + c.d) (omega arith) (same_cong c.x (c.x + c.d) one) in
    omega (arith, c.some, c.less, le_of_dvd {n = c.x + c.d - c.x} (omega (arith, c.some)) dv)

pub apart : (t : Triple) → ((x d : ℕ) → 0 < d → d < t.k → ¬ (t.k ∣ d * slope t x d)) → Permutes (quadratic t)
apart t h =
    permutes_apart (quadratic t)
    (λ i j l m e. h i (j - i) (omega arith) (omega arith) (differ t i (j - i) (e ∙ ap (λ (n : ℕ). f t n) (omega arith))))
