-- Laws of any list of tests: one number is given, a number stays whatever follows, tests that do not apply are passed, and a list splits.
use mathlib.Core.Path.{◌≡◌, sym, subst, ◌∙◌}
use mathlib.Core.Logic.{◌≢◌, inl, inr}
use mathlib.Core.Bool.{Bool, true, false, cond}
use mathlib.Core.List.{List, [], ◌∷◌, ◌++◌}
use Prim.Native.Nat.{ℕ}
use lib.Dec.{T, eqb}
use borrow.Author.Tests.{eq-eqb}
use Rattle.refusals.specs.Refusals.{Test, First}

-- one number is given
pub first_one : (tests : List Test) {n m : ℕ} → First tests n → First tests m → n ≡ m
first_one [] p q = p ∙ sym q
first_one (test ∷ more) (inl p) (inl q) = p.0 ∙ sym q.0
first_one (test ∷ more) (inl p) (inr q) = absurd (q.0 p.1)
first_one (test ∷ more) (inr p) (inl q) = absurd (p.0 q.1)
first_one (test ∷ more) (inr p) (inr q) = first_one more p.1 q.1

-- a refusal stays one, whatever tests follow
pub stays : (tests more : List Test) {n : ℕ} → First tests n → n ≢ 0 → First (tests ++ more) n
stays [] more p ne = absurd (ne p)
stays (test ∷ tests) more (inl p) ne = inl p
stays (test ∷ tests) more (inr p) ne = inr (p.0, stays tests more p.1 ne)

-- ---- no test applies

abbrev pub None : List Test → Type 0
None [] = Unit {0}
None (test ∷ more) = (¬ test.applies) × None more

pub none_first : (tests : List Test) {n : ℕ} → None tests → n ≡ 0 → First tests n
none_first [] _ z = z
none_first (test ∷ more) h z = inr (h.0, none_first more h.1 z)

-- the tests that follow decide
pub passes : (tests more : List Test) (n : ℕ) → None tests → First more n → First (tests ++ more) n
passes [] more n _ f = f
passes (test ∷ tests) more n h f = inr (h.0, passes tests more n h.1 f)

-- ---- 0 stands for no refusal

-- no row of the list has the number 0
abbrev pub numbered : List Test → Bool
numbered [] = true
numbered (test ∷ more) = cond (eqb test.number 0) false (numbered more)

not_zero : (n : ℕ) (rest : Bool) → T (cond (eqb n 0) false rest) → n ≢ 0
not_zero n rest e z = subst (λ (b : Bool). T (cond b false rest)) (eq-eqb n 0 z) e

later : (b rest : Bool) → T (cond b false rest) → T rest
later true rest e = absurd e
later false rest e = e

-- 0 is given only where none applies
pub none : (tests : List Test) {n : ℕ} → T (numbered tests) → First tests n → n ≡ 0 → None tests
none [] _ f z = tt
none (test ∷ more) e (inl p) z = absurd (not_zero test.number (numbered more) e (sym p.0 ∙ z))
none (test ∷ more) e (inr p) z = (p.0, none more (later (eqb test.number 0) (numbered more) e) p.1 z)

-- and then the tests that follow gave it
pub splits : (tests more : List Test) {n : ℕ} → T (numbered tests) → First (tests ++ more) n → n ≡ 0 → First more n
splits [] more _ f z = f
splits (test ∷ tests) more e (inl p) z = absurd (not_zero test.number (numbered tests) e (sym p.0 ∙ z))
splits (test ∷ tests) more e (inr p) z = splits tests more (later (eqb test.number 0) (numbered tests) e) p.1 z

pub none_before : (tests more : List Test) {n : ℕ} → T (numbered tests) → First (tests ++ more) n → n ≡ 0 → None tests
none_before [] more _ f z = tt
none_before (test ∷ tests) more e (inl p) z = absurd (not_zero test.number (numbered tests) e (sym p.0 ∙ z))
none_before (test ∷ tests) more e (inr p) z = (p.0, none_before tests more (later (eqb test.number 0) (numbered tests) e) p.1 z)

-- where the first tests gave 0, those that follow decide
pub goes_on : (tests more : List Test) {n : ℕ} (m : ℕ) → T (numbered tests) → First tests n → n ≡ 0 → First more m → First (tests ++ more) m
goes_on tests more m right first z late = passes tests more m (none tests right first z) late
