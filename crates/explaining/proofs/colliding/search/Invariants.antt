-- The invariant, `Searching`: the addresses before y differ, and they are marked and no others.
use Rattle.explaining.specs.Searches.{along}
use Rattle.explaining.proofs.Collisions.{Searching}
use Rattle.explaining.proofs.colliding.search.Given as goal

abbrev pub invariant-loop-y : goal.invariant-loop-y
invariant-loop-y l = Searching (along l.map) l.seen l.y
