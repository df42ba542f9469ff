-- `number`: the run of digits at the front is the number, unless it has none or too many: then there is no number.
use Rattle.std.proofs.Common.{inl, inr, sym, ◌∙◌}
use Rattle.std.proofs.lemmas.Bool.Decides.{Decides-eqb}
use native.Mathlib.Omega.{arith}
use Rattle.cards.proofs.Grammar.{no_number}
use Rattle.cards.proofs.reading.number.Goals as goal

pub returns-then-is_empty : goal.returns-then-is_empty
returns-then-is_empty c =
    let size = c.split_at.ensures.front_len in
    no_number c.run.ensures
    (λ some few. elim c.then-is_empty.either [ inl e ↦ omega (arith, (Decides-eqb _ _).0 (sym c.is_empty.ensures ∙ e)) | inr other ↦ omega (arith, other.1) ])
