-- The invariant: least and most tell the least distance of the pairs before i.
use Rattle.spreading.specs.Minima.{pair}
use Rattle.spreading.proofs.Minima.{Kept}
use Rattle.spreading.proofs.closest.Given as goal

abbrev pub invariant-loop-i : goal.invariant-loop-i
invariant-loop-i l = Kept (pair l.list l.n l.d) l.i l.n l.least l.most
