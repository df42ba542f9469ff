use native.Mathlib.Nat.{dvd_refl, dvd_of_mod-eq-zero, mod-eq-zero_of_dvd}
use native.Mathlib.Omega.{arith}
use Rattle.numbers.proofs.Primes.{none_more, least_found}
use Rattle.numbers.proofs.Factors.{none_to_root}
use Rattle.numbers.proofs.factoring.least_prime.Goals as goal

pub returns-then-n-p : goal.returns-then-n-p
returns-then-n-p c = least_found (omega arith) (dvd_refl _) (none_to_root (omega arith) c.loop-p.invariant (omega arith))

pub returns-then-n-p-eq0 : goal.returns-then-n-p-eq0
returns-then-n-p-eq0 c = least_found (omega arith) (dvd_of_mod-eq-zero _ c.if-n-p-eq0.true) c.loop-p.invariant

pub loop-p-preserved : goal.loop-p-preserved
loop-p-preserved c = none_more c.loop-p.invariant (λ h. c.if-n-p-eq0.false (mod-eq-zero_of_dvd _ h))

pub returns-after-loop-p : goal.returns-after-loop-p
returns-after-loop-p c = least_found (omega arith) (dvd_refl _) (λ d big lt. c.loop-p.invariant d big (omega arith))
