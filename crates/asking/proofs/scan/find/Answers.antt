-- Place j of the text is place j - from of the part that is searched.
use Rattle.std.proofs.Common.{◌≡◌, ℕ, ◌+◌, ◌-◌, ◌≤◌, ◌<◌, List, get_or, ap, ◌∙◌, arith}
use Rattle.std.proofs.lemmas.List.{get_or-take, get_or-drop}
use Rattle.std.specs.List.{slice_range}
use Rattle.asking.proofs.scan.find.Goals as goal

at_part : (xs : List ℕ) (a b j : ℕ) → a ≤ j → j < b → get_or (slice_range xs a b) (j - a) 0 ≡ get_or xs j 0
at_part xs a b j low high =
    let inside : j - a < b - a = omega arith
    in let same : a + (j - a) ≡ j = omega arith
    in get_or-take _ _ _ _ inside ∙ get_or-drop a xs (j - a) 0 ∙ ap (λ k. get_or xs k 0) same

pub returns-in-Some-clause-passed : goal.returns-in-Some-clause-passed
returns-in-Some-clause-passed c = λ j low high here.
    c.in-Some.ensures.2 (j - c.args.from) (omega arith)
    (at_part c.args.text.now c.args.from c.args.to j low (omega (arith, c.in-Some.ensures.0)) ∙ here)

pub returns-in-None-clause-passed : goal.returns-in-None-clause-passed
returns-in-None-clause-passed c = λ j low high here.
    c.in-None.ensures (j - c.args.from) (omega arith) (at_part c.args.text.now c.args.from c.args.to j low high ∙ here)
