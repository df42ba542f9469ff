-- `take`'s loop: the cards end inside the buffer, whose length stays. The bytes left fall, since `feed` takes one or more where there
-- is room for a card, and `make_room` leaves that room.
use Rattle.std.proofs.Common.{◌≤◌, ◌≡◌, length}
use Rattle.card.proofs.take.Given as goal

abbrev pub invariant-loop-rest : goal.invariant-loop-rest
invariant-loop-rest g l = (l.end ≤ length l.out) × (length l.out ≡ length l.initial.out)

abbrev pub decreases-loop-rest : goal.decreases-loop-rest
decreases-loop-rest g l = length l.rest
