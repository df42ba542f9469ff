use native.Mathlib.Omega.{arith}
use mathlib.Core.Path.{subst}
use Rattle.refusals.proofs.Largest.{largest_none, largest_more}
use Rattle.refusals.specs.Largest.{Largest}
use Rattle.refusals.proofs.binary.largest.Goals as goal

pub loop-byte-init : goal.loop-byte-init
loop-byte-init c = largest_none

pub loop-byte-preserved : goal.loop-byte-preserved
loop-byte-preserved c = largest_more c.loop-byte.invariant c.max-most.ensures

pub returns : goal.returns
returns c = subst (λ n. Largest c.args.bytes.now n c.loop-byte.most) (omega (arith, c.loop-byte.auto.byte-index-end)) c.loop-byte.invariant
