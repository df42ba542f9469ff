-- What `accept` answers says which of the two cards it is.
use Rattle.refusals.proofs.Numbers.{never_zero}
use Rattle.cards.specs.Cards.{refused, accepted as accepted_card}
use Rattle.cards.proofs.composing.of_triple.Goals as goal

pub returns-in-Ok : goal.returns-in-Ok
returns-in-Ok c = accepted_card _ c.in-Ok.ensures c.facts_of.ensures c.accepted.ensures

pub returns-in-Err : goal.returns-in-Err
returns-in-Err c =
    refused c.into.result (rw c.into.ensures c.in-Err.ensures) (rw c.into.ensures (never_zero c.in-Err.refusal)) c.refused.ensures
