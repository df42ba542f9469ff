-- Laws of answers: the ways to give one, and that no second one fits.
use mathlib.Core.Path.{◌≡◌, sym, subst, ◌∙◌}
use mathlib.Core.Logic.{◌≢◌}
use mathlib.Core.List.{List, ◌++◌}
use Prim.Native.Nat.{ℕ}
use native.Mathlib.Decide.{ℕ_discrete}
use native.Mathlib.Omega.{arith}
use lib.Dec.{T}
use Rattle.refusals.specs.Refusals.{Test, First, Answer}
use Rattle.refusals.proofs.Tests.{first_one, goes_on, numbered}

module _ {tests own : List Test} {Done Nothing : Type 0} where
  -- what the tests gave is refused
  pub refusing : {n m : ℕ} → m ≡ n → First (tests ++ own) n → n ≢ 0 → Nothing → Answer tests own m Done Nothing
  refusing e first ne nothing =
      record {
        first = subst (λ (k : ℕ). First (tests ++ own) k) (sym e) first;
        done = λ z. absurd (ne (sym e ∙ z));
        refused = λ _. nothing;
      }

  -- and is 0
  pub answering : {n : ℕ} → First (tests ++ own) n → n ≡ 0 → Done → Answer tests own 0 Done Nothing
  answering first z done =
      record { first = subst (λ (k : ℕ). First (tests ++ own) k) z first; done = λ _. done; refused = λ ne. absurd (omega arith) }

  -- they pass, and those of its own refuse
  pub refuse_late : {n l m : ℕ} → T (numbered tests) → First tests n → n ≡ 0 → m ≡ l → First own l → l ≢ 0 → Nothing → Answer tests own m Done Nothing
  refuse_late {l = l} right first z e late ne nothing = refusing e (goes_on tests own l right first z late) ne nothing

  -- all pass
  pub answer_late : {n l : ℕ} → T (numbered tests) → First tests n → n ≡ 0 → First own l → l ≡ 0 → Done → Answer tests own 0 Done Nothing
  answer_late {l = l} right first z late y done = answering (goes_on tests own l right first z late) y done

module _ {tests own : List Test} {n m : ℕ} {Done Nothing Done' Nothing' Same : Type 0} where
  -- two answers to the same tests have the same number, and whatever is the same in two answers that are done, and in two that are refused,
  -- is the same
  pub answer_one_when : (First (tests ++ own) n → n ≡ 0 → Done → Done' → Same) → (Nothing → Nothing' → Same) → Answer tests own n Done Nothing
      → Answer tests own m Done' Nothing' → (n ≡ m) × Same
  answer_one_when done nothing a b =
      let e : n ≡ m = first_one (tests ++ own) a.first b.first in (e, pick e (ℕ_discrete n 0))
    where
      pick : n ≡ m → Dec (n ≡ 0) → Same
      pick e (yes z) = done a.first z (a.done z) (b.done (sym e ∙ z))
      pick e (no z) = nothing (a.refused z) (b.refused (λ w. z (e ∙ w)))

  pub answer_one : (Done → Done' → Same) → (Nothing → Nothing' → Same) → Answer tests own n Done Nothing → Answer tests own m Done' Nothing'
      → (n ≡ m) × Same
  answer_one done = answer_one_when (λ _ _. done)
