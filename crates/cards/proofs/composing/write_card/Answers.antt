-- `write_card`: what `read` answers says which kind of card it is.
use Rattle.std.proofs.Common.{refl}
use Rattle.cards.specs.Cards.{unreadable, readable}
use Rattle.cards.proofs.composing.write_card.Goals as goal

pub returns-in-Some : goal.returns-in-Some
returns-in-Some c = record { text = _; such = readable _ c.in-Some.ensures c.of_triple.ensures; written = c.write.ensures }

pub returns-in-None : goal.returns-in-None
returns-in-None c = record { text = _; such = unreadable c.in-None.ensures refl; written = c.unreadable.ensures }
