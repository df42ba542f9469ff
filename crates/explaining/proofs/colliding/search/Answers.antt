use native.Mathlib.Omega.{arith}
use Rattle.explaining.specs.Searches.{along}
use Rattle.explaining.proofs.Collisions.{searching_found, searching_step}
use Rattle.explaining.proofs.colliding.search.Goals as goal

pub loop-y-preserved : goal.loop-y-preserved
loop-y-preserved c =
    searching_step (along _) c.loop-y.invariant (omega arith) c.place-address.ensures.0 c.place-address.ensures.1
    c.is_marked.ensures c.if-is_marked.false c.mark.ensures

pub returns-then-is_marked : goal.returns-then-is_marked
returns-then-is_marked c =
    searching_found (along _) c.loop-y.invariant (omega arith) c.place-address.ensures.0 c.place-address.ensures.1 c.is_marked.ensures
    c.if-is_marked.true c.earliest.ensures
