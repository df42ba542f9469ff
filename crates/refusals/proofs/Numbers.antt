-- No refusal has the number 0, and no two have the same: a number tells the answer.
use mathlib.Core.Path.{◌≡◌, refl, sym, ap, ◌∙◌}
use mathlib.Core.Logic.{◌≢◌}
use Prim.Native.Nat.{ℕ}
use mathlib.Core.List.{[], ◌∷◌}
use native.Mathlib.Omega.{arith}
use lib.ListN.{get_or}
use Rattle.std.specs.Prelude.{Result, Ok, Err}
use Rattle.refusals.specs.declared.refusal.Refusal.{Refusal}
use Rattle.refusals.specs.declared.refusal.Refusal.TheVariants.{Length, Coefficient, Shuffle, Block, Scratch, Position, List, Explained, Row}
use Rattle.refusals.specs.Numbers.{number_of}

pub never_zero : (refusal : Refusal) → number_of refusal ≢ 0
never_zero Length z = omega (arith, z)
never_zero Coefficient z = omega (arith, z)
never_zero Shuffle z = omega (arith, z)
never_zero Block z = omega (arith, z)
never_zero Scratch z = omega (arith, z)
never_zero Position z = omega (arith, z)
never_zero List z = omega (arith, z)
never_zero Explained z = omega (arith, z)
never_zero Row z = omega (arith, z)

-- the refusal of a number from 1 on
abbrev of_number : ℕ → Refusal
of_number n = get_or (Row ∷ Length ∷ Coefficient ∷ Shuffle ∷ Block ∷ Scratch ∷ Position ∷ List ∷ Explained ∷ []) n Row

back : (refusal : Refusal) → of_number (number_of refusal) ≡ refusal
back Length = refl
back Coefficient = refl
back Shuffle = refl
back Block = refl
back Scratch = refl
back Position = refl
back List = refl
back Explained = refl
back Row = refl

pub number_of_one : {r s : Refusal} → number_of r ≡ number_of s → r ≡ s
number_of_one {r} {s} e = sym (back r) ∙ ap of_number e ∙ back s

-- an answer that is shown with its number tells itself: a refusal by the number, and what is done where that shows all of it
module _ {A C : Type 0} (shown : Result A Refusal → C) (number_in : C → ℕ) (done : (a : A) → number_in (shown (Ok a)) ≡ 0)
    (refused : (r : Refusal) → number_in (shown (Err r)) ≡ number_of r) (whole : (a b : A) → shown (Ok a) ≡ shown (Ok b) → a ≡ b) where
  pub shown_one : (r s : Result A Refusal) → shown r ≡ shown s → r ≡ s
  shown_one (Ok a) (Ok b) e = ap Ok (whole a b e)
  shown_one (Ok a) (Err q) e = absurd (never_zero q (sym (refused q) ∙ sym (ap number_in e) ∙ done a))
  shown_one (Err p) (Ok b) e = absurd (never_zero p (sym (refused p) ∙ ap number_in e ∙ done b))
  shown_one (Err p) (Err q) e = ap Err (number_of_one (sym (refused p) ∙ ap number_in e ∙ refused q))
