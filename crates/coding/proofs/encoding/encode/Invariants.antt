-- The loop's invariant, `Pass`: the places below i are written, and coders and addresses stand at i.
use Rattle.coding.proofs.Passes.{Pass}
use Rattle.coding.proofs.encoding.encode.Given as goal

abbrev pub invariant-loop-i : goal.invariant-loop-i
invariant-loop-i l = Pass l.fn.t l.input l.initial.d0 l.initial.d1 l.initial.d2 l.d0 l.d1 l.d2 l.at l.first.state l.second.state l.i
