-- `run`'s loop: the cards end inside the buffer.
use Rattle.std.proofs.Common.{◌≤◌, length}
use Rattle.card.proofs.run.Given as goal

abbrev pub invariant-loop : goal.invariant-loop
invariant-loop g l = l.end ≤ length l.out
