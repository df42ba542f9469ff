-- The coefficients are asked by their remainders, which give the same f.
use Rattle.explaining.proofs.Failures.{reduced_decides}
use Rattle.explaining.proofs.failing.permutes_modulo.Goals as goal

pub returns : goal.returns
returns c = reduced_decides c.args.t _ c.permutes.ensures
