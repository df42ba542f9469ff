-- Small numbers tried one by one, so that a case is a computation.
use mathlib.Core.Path.{◌≡◌, refl, sym, subst}
use mathlib.Core.Logic.{◌≢◌, inl, inr, ⊎_elim}
use mathlib.Core.Bool.{Bool, true, false, cond}
use mathlib.Core.List.{[], ◌∷◌}
use Prim.Native.Nat.{ℕ, ◌≤◌}
use native.Mathlib.Omega.{arith}
use lib.Dec.{T, eqb, leb, ltb, eqb→eq}
use borrow.Author.Tests.{eq-eqb, eqb-true, eqb-false, leb-true, leb-false, ltb-true, ltb-false}
use Rattle.numbers.proofs.Computation.{every, passes, some_fails}
use Rattle.triples.specs.declared.Triple.{Triple}
use Rattle.permuting.specs.Formulas.{Permutes}
use Rattle.triples.specs.Shuffles.{f, quadratic, InRange}
use Rattle.refusals.specs.Refusals.{Acceptance, range_tests, shuffle_tests, no_length, no_shuffle}
use Rattle.refusals.proofs.Tests as tests
use Rattle.refusals.proofs.Acceptance.{none_ranged, none_shuffle}

-- ---- does f permute?

-- two positions with the same value are one position
abbrev apart : Triple → ℕ → ℕ → Bool
apart t x y = cond (eqb (f t x) (f t y)) (eqb x y) true

abbrev tried : Triple → Bool
tried t = every t.k (λ x. every t.k (apart t x))

apart_true : (t : Triple) (x y : ℕ) → T (apart t x y) → f t x ≡ f t y → x ≡ y
apart_true t x y e s = eqb→eq x y (subst (λ (b : Bool). T (cond b (eqb x y) true)) (eq-eqb (f t x) (f t y) s) e)

apart_false : (t : Triple) (x y : ℕ) → apart t x y ≡ false → (f t x ≡ f t y) × (x ≢ y)
apart_false t x y e = go (eqb (f t x) (f t y)) refl e
  where
    go : (b : Bool) → eqb (f t x) (f t y) ≡ b → cond b (eqb x y) true ≡ false → (f t x ≡ f t y) × (x ≢ y)
    go true w e = (eqb-true (f t x) (f t y) w, eqb-false x y e)
    go false w e = let z : ◌≡◌ {A = ℕ} 0 1 = cc in absurd (omega arith)

tried_true : (t : Triple) → tried t ≡ true → Permutes (quadratic t)
tried_true t e x y lx ly s =
    apart_true t x y (passes t.k (apart t x) (passes t.k (λ x. every t.k (apart t x)) (subst T (sym e) tt) x lx) y ly) s

tried_false : (t : Triple) → tried t ≡ false → ¬ Permutes (quadratic t)
tried_false t e permutes =
    let (x, lx, p) = some_fails t.k (λ x. every t.k (apart t x)) e in
    let (y, ly, q) = some_fails t.k (apart t x) p in
    let (s, ne) = apart_false t x y q in
    ne (permutes x y lx ly s)

-- ---- the number of acceptance

abbrev pub judge : Triple → ℕ
judge t = cond (ltb t.k 2) 1 (cond (ltb 8192 t.k) 1 (cond (leb t.k t.f1) 2 (cond (leb t.k t.f2) 2 (cond (tried t) 0 3))))

-- what holds of each way that a test can go holds of what is picked by it
picked : (P : ℕ → Type 0) (test : Bool) {a b : ℕ} → (test ≡ true → P a) → (test ≡ false → P b) → P (cond test a b)
picked P true then other = then refl
picked P false then other = other refl

pub judge_first : (t : Triple) → Acceptance (quadratic t) (judge t)
judge_first t =
    let φ = quadratic t in
    let P : ℕ → Type 0 = λ n. Acceptance (quadratic t) n in
    picked P (ltb t.k 2) (λ e. inl (refl, inl (ltb-true _ _ e))) λ e₁.
    picked P (ltb 8192 t.k) (λ e. inl (refl, inr (ltb-true _ _ e))) λ e₂.
    let low : 2 ≤ t.k = ltb-false _ _ e₁ in
    let high : t.k ≤ 8192 = ltb-false _ _ e₂ in
    let length_right : ¬ (no_length t.k).applies = ⊎_elim (λ p. omega arith) (λ p. omega arith) in
    picked P (leb t.k t.f1) (λ e. inr (length_right, inl (refl, inl (leb-true _ _ e)))) λ e₃.
    picked P (leb t.k t.f2) (λ e. inr (length_right, inl (refl, inr (inl (leb-true _ _ e))))) λ e₄.
    let range : InRange t = record { low = low; high = high; first = leb-false _ _ e₃; second = leb-false _ _ e₄ } in
    picked P (tried t) (λ e. tests.none_first (shuffle_tests φ) (none_shuffle (record { range = range; permutes = tried_true t e })) refl)
    (λ e. tests.passes (range_tests φ) (no_shuffle φ ∷ []) 3 (none_ranged range) (inl (refl, tried_false t e)))

pub judged_as : (t : Triple) (n : ℕ) → T (eqb (judge t) n) → Acceptance (quadratic t) n
judged_as t n e = subst (λ (m : ℕ). Acceptance (quadratic t) m) (eqb→eq (judge t) n e) (judge_first t)
