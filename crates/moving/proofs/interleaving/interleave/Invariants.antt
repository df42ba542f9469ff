-- Outer loop, `Resting`: every place below `start` is on a cycle that was walked, and what is marked holds its new symbol. What is left up
-- to k falls, since the next start is sought past this one. Inner loop, `Walking`: the same but for the cycle of `start`, of which the
-- places before i are done and the first symbol is in hand. How many places are not marked falls, since i is marked as the walk leaves it.
use Prim.Native.Nat.{◌-◌}
use Rattle.permuting.specs.Blocks.{interleave}
use Rattle.permuting.proofs.Traversal.{unseen}
use Rattle.maps.specs.Maps.{to}
use Rattle.moving.proofs.Walks.{Resting, Walking}
use Rattle.moving.proofs.interleaving.interleave.Given as goal

abbrev pub invariant-cycle : goal.invariant-cycle
invariant-cycle g l = Walking interleave l.map.k (to l.map) l.initial.block l.initial.scratch l.start l.block l.scratch l.i l.first

abbrev pub invariant-loop-start : goal.invariant-loop-start
invariant-loop-start g l = Resting interleave l.map.k (to l.map) l.initial.block l.initial.scratch l.block l.scratch l.start

abbrev pub decreases-cycle : goal.decreases-cycle
decreases-cycle g l = unseen l.map.k l.scratch

abbrev pub decreases-loop-start : goal.decreases-loop-start
decreases-loop-start g l = l.map.k - l.start
