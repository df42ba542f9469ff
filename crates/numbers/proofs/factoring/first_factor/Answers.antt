use native.Mathlib.Nat.{dvd_of_mod-eq-zero}
use native.Mathlib.Omega.{arith}
use Rattle.numbers.proofs.Factors.{divided_once, divided_more, divided_all}
use Rattle.numbers.proofs.factoring.first_factor.Goals as goal

pub loop-rest-init : goal.loop-rest-init
loop-rest-init c = divided_once c.least_prime-prime.ensures.divides

pub loop-rest-preserved : goal.loop-rest-preserved
loop-rest-preserved c = divided_more c.loop-rest.invariant (dvd_of_mod-eq-zero _ (omega arith))

pub returns : goal.returns
returns c = divided_all (omega arith) c.least_prime-prime.ensures c.loop-rest.invariant (λ e. omega arith)
