-- The invariant: addresses at positions less than s apart are at least as far apart as the closest that were met, and the list has gone on by an
-- entry for each of these distances. The measure is what lies between s and the distance of the closest, and it falls, since s goes up by one and
-- that distance does not go up.
use Prim.Native.Nat.{◌-◌}
use Rattle.spreading.specs.Minima.{entry}
use Rattle.spreading.proofs.Ascending.{Searching}
use Rattle.spreading.proofs.Tables.{GoesOn}
use Rattle.spreading.proofs.search.Given as goal

abbrev pub invariant-loop-s : goal.invariant-loop-s
invariant-loop-s l = record { searching : Searching (entry l.initial.list) l.n l.s l.least; on : GoesOn l.initial.list l.n l.places l.s l.list }

abbrev pub decreases-loop-s : goal.decreases-loop-s
decreases-loop-s l = l.least - l.s
