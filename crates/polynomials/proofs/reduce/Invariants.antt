-- The invariant, `Reducing`: the places past n are inside the limits, the values are the same modulo k, and 32 bits have room for the sums to
-- come. At 0 all is done, since the constant is below k from the start.
use Rattle.polynomials.proofs.Reductions.{Reducing}
use Rattle.polynomials.proofs.reduce.Given as goal

abbrev pub invariant-loop-n : goal.invariant-loop-n
invariant-loop-n l = Reducing l.k l.top l.initial.q l.q l.n
