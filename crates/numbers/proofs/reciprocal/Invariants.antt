-- The invariant, `Multipliers`: each of two remainders in a row is its multiplier times a, up to multiples of k. The measure is the lower
-- remainder, and it falls, since a remainder is below what it is taken by; once it is 0, the upper one is 1.
use Rattle.numbers.proofs.Reciprocals.{Multipliers}
use Rattle.numbers.proofs.reciprocal.Given as goal

abbrev pub invariant-loop-lower : goal.invariant-loop-lower
invariant-loop-lower l = Multipliers l.k l.a l.upper l.upper_by l.lower l.lower_by

abbrev pub decreases-loop-lower : goal.decreases-loop-lower
decreases-loop-lower l = l.lower
