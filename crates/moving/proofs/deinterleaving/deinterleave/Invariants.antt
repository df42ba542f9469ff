-- Invariants, measures and ends are those of interleaving, but that the symbol in hand is the one that stood at i.
use Prim.Native.Nat.{◌-◌}
use Rattle.permuting.specs.Blocks.{deinterleave}
use Rattle.permuting.proofs.Traversal.{unseen}
use Rattle.maps.specs.Maps.{to}
use Rattle.moving.proofs.Walks.{Resting, Walking}
use Rattle.moving.proofs.deinterleaving.deinterleave.Given as goal

abbrev pub invariant-cycle : goal.invariant-cycle
invariant-cycle g l = Walking deinterleave l.map.k (to l.map) l.initial.block l.initial.scratch l.start l.block l.scratch l.i l.carried

abbrev pub invariant-loop-start : goal.invariant-loop-start
invariant-loop-start g l = Resting deinterleave l.map.k (to l.map) l.initial.block l.initial.scratch l.block l.scratch l.start

abbrev pub decreases-cycle : goal.decreases-cycle
decreases-cycle g l = unseen l.map.k l.scratch

abbrev pub decreases-loop-start : goal.decreases-loop-start
decreases-loop-start g l = l.map.k - l.start
