-- `feed`: the bytes taken so far have printed what they print, and nothing was written if none was taken. It stops for want of room
-- only after it took one, if there was room for a card at first.
use Rattle.cards.proofs.Pieces.{Feeding}
use Rattle.cards.proofs.streaming.feed.Given as goal

abbrev pub invariant-loop-taken : goal.invariant-loop-taken
invariant-loop-taken l = Feeding l.piece l.initial.out l.at l.initial.line l.out l.line l.end l.taken
