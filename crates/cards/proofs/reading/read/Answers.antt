-- `read`: each number is searched for after the space that ends the one before. Where a search finds none, no triple reads as the line:
-- its numbers would be the same up to there.
use mathlib.Core.Path.{refl}
use Rattle.cards.proofs.Grammar.{begins_front, begins_rest, number_front}
use Rattle.cards.proofs.reading.read.Goals as goal

pub returns-in_err-k : goal.returns-in_err-k
returns-in_err-k c =
    rw c.from_residual.ensures
    (λ t r. c.in_err-k.ensures _ _ (_, refl) (begins_front r.lists))

pub returns-in_err-f1 : goal.returns-in_err-f1
returns-in_err-f1 c =
    rw c.from_residual-in_err-f1.ensures
    (λ t r. c.in_err-f1.ensures _ _ (_, refl) (begins_front (begins_rest r.lists c.in_ok-k.ensures)))

pub returns-in_err-f2 : goal.returns-in_err-f2
returns-in_err-f2 c =
    rw c.from_residual-in_err-f2.ensures
    (λ t r. c.in_err-f2.ensures _ _ refl (number_front (begins_rest (begins_rest r.lists c.in_ok-k.ensures) c.in_ok-f1.ensures)))
