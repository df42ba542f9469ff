-- The invariant: the places before j are done, and the others are as they came.
use Rattle.numbers.specs.Lists.{Written}
use Rattle.polynomials.specs.RisingProducts.{sum_at}
use Rattle.polynomials.proofs.add_rising.Given as goal

abbrev pub invariant-loop-j : goal.invariant-loop-j
invariant-loop-j l = Written (sum_at l.k l.t l.n l.initial.q) l.j l.initial.q l.q
