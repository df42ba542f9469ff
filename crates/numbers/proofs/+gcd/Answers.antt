use Rattle.numbers.proofs.Divisors.{gcd_step}
use Rattle.numbers.proofs.+gcd.Goals as goal

pub returns-else-b-eq0 : goal.returns-else-b-eq0
returns-else-b-eq0 t c = gcd_step _ _ _ c.gcd.ensures
