use native.Mathlib.Omega.{arith}
use Rattle.polynomials.proofs.RisingProducts.{adding_start}
use Rattle.polynomials.proofs.add_rising.Goals as goal

pub loop-j-init : goal.loop-j-init
loop-j-init c = adding_start _ _ _ _ (omega arith)
