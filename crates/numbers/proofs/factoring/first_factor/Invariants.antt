-- The invariant, `Divided`: power times rest is n, and power is a power of the prime. The rest falls, since it is divided by the prime; where
-- the prime divides it no more, the power is the full one.
use Rattle.numbers.proofs.Factors.{Divided}
use Rattle.numbers.proofs.factoring.first_factor.Given as goal

abbrev pub invariant-loop-rest : goal.invariant-loop-rest
invariant-loop-rest l = Divided l.n l.prime l.power l.rest

abbrev pub decreases-loop-rest : goal.decreases-loop-rest
decreases-loop-rest l = l.rest
