-- The loop's invariant, `Grown`: the places up to j have their terms, the others are 0, and power is what the next term multiplies. The loop
-- ends where no Catalan number is left, or at a power that is 0, after which every term is.
use Rattle.inverting.proofs.Growth.{Grown}
use Rattle.inverting.proofs.terms.series.Given as goal

abbrev pub invariant-loop-j : goal.invariant-loop-j
invariant-loop-j l = Grown l.k l.f2 l.r l.s l.power l.j
