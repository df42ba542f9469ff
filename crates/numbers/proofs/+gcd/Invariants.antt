-- The measure is the second argument: it becomes a remainder by itself, which is less, and at 0 the call ends. What the inner call answers
-- is the answer (`gcd_step`), and at 0 it is a (`gcd_end`).
use Rattle.numbers.proofs.+gcd.Given as goal

abbrev pub decreases-gcd : goal.decreases-gcd
decreases-gcd l = l.b
