-- The invariant, `Rising`: no position before x has the address, and so x has not come past the one that has it. What is left of the
-- positions falls, since x goes up by one.
use Prim.Native.Nat.{◌-◌}
use Rattle.explaining.specs.Searches.{along}
use Rattle.explaining.proofs.Collisions.{Rising}
use Rattle.explaining.proofs.colliding.earliest.Given as goal

abbrev pub invariant-loop-map : goal.invariant-loop-map
invariant-loop-map l = Rising (along l.map) l.address l.x

abbrev pub decreases-loop-map : goal.decreases-loop-map
decreases-loop-map l = l.map.k - l.x
