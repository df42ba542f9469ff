-- `spaced`: no number, or another rest than one that begins with a space.
use Rattle.std.proofs.Common.{None, [], ◌∷◌}
use Rattle.std.proofs.lemmas.Bool.Decides.{Decides-eqb}
use Rattle.std.proofs.lemmas.Slice.Eq.{strip_prefix_is}
use Rattle.cards.specs.Texts.{space}
use Rattle.cards.specs.Fronts.{Spaced}
use Rattle.cards.proofs.Grammar.{none_such, other_rest}
use Rattle.cards.proofs.reading.spaced.Goals as goal

pub returns-in_err-n : goal.returns-in_err-n
returns-in_err-n c = rw c.from_residual.ensures (none_such Spaced c.in_err-n.ensures)

pub returns-in_err-after : goal.returns-in_err-after
returns-in_err-after c =
    let none = strip_prefix_is Decides-eqb c.in_ok-n.rest.now (space ∷ []) None c.in_err-after.ensures.cases in
    rw c.from_residual-in_err-after.ensures (other_rest Spaced c.in_ok-n.ensures (λ such. none such.0 such.1))
