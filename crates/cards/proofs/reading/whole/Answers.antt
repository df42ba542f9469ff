-- `whole`: no number, or a rest.
use Rattle.cards.specs.Fronts.{NoMore}
use Rattle.cards.proofs.Grammar.{none_such, whole_or_none}
use Rattle.cards.proofs.reading.whole.Goals as goal

pub returns-in_err-n : goal.returns-in_err-n
returns-in_err-n c = rw c.from_residual.ensures (none_such NoMore c.in_err-n.ensures)

pub returns : goal.returns
returns c = rw (c.then_some.ensures, c.is_empty.ensures) (whole_or_none c.in_ok-n.rest.now c.in_ok-n.ensures)
