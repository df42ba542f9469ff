-- The odd form is the same f, and in it f1 and K are both even only where 4 divides K.
use mathlib.Core.Path.{◌≡◌, refl, sym, ap, subst, ◌∙◌}
use mathlib.Core.Logic.{◌≢◌}
use mathlib.Core.Bool.{Bool, true, false, cond}
use Prim.Native.Nat.{ℕ, ◌+◌, ◌*◌, ◌/◌, ◌%◌}
use native.Mathlib.Nat.{mod-lt, mod-mod_of_dvd, dvd_of_mod-eq-zero}
use native.Mathlib.Decide.{ℕ_discrete}
use native.Mathlib.Omega.{arith}
use lib.Dec.{eqb}
use borrow.Author.Tests.{eqb-true, eqb-false}
use Rattle.numbers.proofs.Congruences.{cong_same}
use Rattle.triples.specs.declared.Triple.{Triple}
use Rattle.permuting.specs.Formulas.{Permutes}
use Rattle.permuting.proofs.Formulas.{permutes_as}
use Rattle.triples.specs.Shuffles.{triple, f, InRange, odd_form, quadratic}
use Rattle.triples.proofs.Values.{reduced}

abbrev pub shifted : Triple → Triple
shifted t = triple t.k ((t.f1 + t.k / 2) % t.k) ((t.f2 + t.k / 2) % t.k)

-- what holds of the triple where K or f1 is odd, and of the shifted one where both are even, holds of the odd form
pub odd_form_cases : (P : Triple → Type 0) (t : Triple) → (t.k % 2 ≢ 0 → P t) → (t.f1 % 2 ≢ 0 → P t)
    → (t.k % 2 ≡ 0 → t.f1 % 2 ≡ 0 → P (shifted t)) → P (odd_form t)
odd_form_cases P t odd_length odd_first both = go (eqb (t.k % 2) 0) refl (eqb (t.f1 % 2) 0) refl
  where
    go : (a : Bool) → eqb (t.k % 2) 0 ≡ a → (b : Bool) → eqb (t.f1 % 2) 0 ≡ b → P (cond a (cond b (shifted t) t) t)
    go false p b q = odd_length (eqb-false _ _ p)
    go true p false q = odd_first (eqb-false _ _ q)
    go true p true q = both (eqb-true _ _ p) (eqb-true _ _ q)

-- x·(x + 1) is even
half_product : (x : ℕ) → (q : ℕ) × (x + x * x ≡ 2 * q)
half_product x = go (ℕ_discrete (x % 2) 0)
  where
    go : Dec (x % 2 ≡ 0) → (q : ℕ) × (x + x * x ≡ 2 * q)
    go (yes e) =
        let w : x ≡ 2 * (x / 2) = omega arith in
        (x / 2 + 2 * (x / 2) * (x / 2), ap (λ (n : ℕ). n + n * n) w ∙ omega arith)
    go (no e) =
        let w : x ≡ 2 * (x / 2) + 1 = omega arith in
        (3 * (x / 2) + 2 * (x / 2) * (x / 2) + 1, ap (λ (n : ℕ). n + n * n) w ∙ omega arith)

shifted_same : (t : Triple) → t.k % 2 ≡ 0 → (x : ℕ) → f (shifted t) x ≡ f t x
shifted_same t even x =
    let (q, e) = half_product x in
    let w : t.k ≡ 2 * (t.k / 2) = omega arith in
    reduced t.k (t.f1 + t.k / 2) (t.f2 + t.k / 2) x
    ∙ cong_same (record { l = 0; r = q; eq = omega (arith, ap (λ (n : ℕ). t.k / 2 * n) e, ap (λ (n : ℕ). q * n) w) })

-- the odd form is the same f, at every position
pub odd_form_same : (t : Triple) (x : ℕ) → f (odd_form t) x ≡ f t x
odd_form_same t = odd_form_cases (λ o. (x : ℕ) → f o x ≡ f t x) t (λ _ x. refl) (λ _ x. refl) (λ even _. shifted_same t even)

-- the remainder by an even K has the parity of what was divided
pub mod_parity : (k n : ℕ) → k % 2 ≡ 0 → n % k % 2 ≡ n % 2
mod_parity k n even = mod-mod_of_dvd 2 n (dvd_of_mod-eq-zero 2 even)

-- what the odd form o of t is good for
pub record Form (t o : Triple) : Type 0 where
  pub length : o.k ≡ t.k
  pub same : (x : ℕ) → f o x ≡ f t x
  pub range : InRange o
  pub odd : o.k % 2 ≡ 0 → o.f1 % 2 ≡ 0 → o.k % 4 ≡ 0

pub odd_form_lem : (t : Triple) → InRange t → Form t (odd_form t)
odd_form_lem t r =
    odd_form_cases (Form t) t
    (λ odd. record { length = refl; same = λ x. refl; range = r; odd = λ even e. absurd (odd even) })
    (λ odd. record { length = refl; same = λ x. refl; range = r; odd = λ even e. absurd (odd e) })
    (λ even e.
    record {
      length = refl;
      same = shifted_same t even;
      range =
          record {
            low = r.low;
            high = r.high;
            first = mod-lt (t.f1 + t.k / 2) (omega (arith, r.low));
            second = mod-lt (t.f2 + t.k / 2) (omega (arith, r.low));
          };
      odd = λ _ e'. four even e e';
    })
  where
    -- half of K is odd unless 4 divides K, and then so is the shifted f1
    four : t.k % 2 ≡ 0 → t.f1 % 2 ≡ 0 → (t.f1 + t.k / 2) % t.k % 2 ≡ 0 → t.k % 4 ≡ 0
    four even e e' = omega (arith, mod_parity t.k (t.f1 + t.k / 2) even)

-- the same f permutes as well
pub form_permutes : {t o : Triple} → Form t o → Permutes (quadratic o) → Permutes (quadratic t)
form_permutes {t} {o} w = permutes_as (quadratic o) (quadratic t) w.length (λ x _. w.same x)

pub permutes_form : {t o : Triple} → Form t o → Permutes (quadratic t) → Permutes (quadratic o)
permutes_form {t} {o} w = permutes_as (quadratic t) (quadratic o) (sym w.length) (λ x _. sym (w.same x))

-- ---- as the code takes it

-- the pair itself, unless K and f1 are both even
pub own_form : (t : Triple) → (t.k % 2 ≡ 0 → t.f1 % 2 ≢ 0) → t ≡ odd_form t
own_form t h = odd_form_cases (λ o. t ≡ o) t (λ _. refl) (λ _. refl) (λ even e. absurd (h even e))

pub even_form : (t : Triple) → t.k % 2 ≡ 0 → t.f1 % 2 ≡ 0 → shifted t ≡ odd_form t
even_form t p q = odd_form_cases (λ o. shifted t ≡ o) t (λ h. absurd (h p)) (λ h. absurd (h q)) (λ _ _. refl)

pub in_form : {t o : Triple} → InRange t → o ≡ odd_form t → InRange o
in_form {t} r e = subst (λ (w : Triple). InRange w) (sym e) (odd_form_lem t r).range
