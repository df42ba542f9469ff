-- The invariant, `Passed`: the primes that are no longer in the rest do not fail. The rest falls, since a full power is divided out of it, and
-- does not come to 1, since f would permute.
use Prim.Native.Nat.{◌≤◌}
use Rattle.explaining.proofs.Failures.{Passed}
use Rattle.explaining.proofs.failing.failing_prime.Given as goal

abbrev pub invariant-loop-t : goal.invariant-loop-t
invariant-loop-t l = record { passed : Passed l.t l.rest; low : 2 ≤ l.rest; high : l.rest ≤ 8192 }

abbrev pub decreases-loop-t : goal.decreases-loop-t
decreases-loop-t l = l.rest
