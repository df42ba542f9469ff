-- The invariant: nothing from 2 on and below p divides n. Past the root of n nothing but n is left.
use Rattle.numbers.proofs.Primes.{NoneBelow}
use Rattle.numbers.proofs.factoring.least_prime.Given as goal

abbrev pub invariant-loop-p : goal.invariant-loop-p
invariant-loop-p l = NoneBelow l.n l.p
