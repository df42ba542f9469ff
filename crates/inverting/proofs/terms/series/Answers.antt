use mathlib.Core.Path.{refl}
use native.Mathlib.Omega.{arith}
use Rattle.inverting.specs.Series.{catalan}
use Rattle.inverting.proofs.Growth.{grown_start, grown_turn, grown_full, grown_short, minus}
use Rattle.inverting.proofs.terms.series.Goals as goal

pub loop-j-init : goal.loop-j-init
loop-j-init c =
    grown_start _ _ _ _ (omega arith) c.requires.places c.requires.zeros

pub returns-then-power-eq0 : goal.returns-then-power-eq0
returns-then-power-eq0 c =
    let grown = c.loop-j.invariant in
    (grown_short _ _ _ _ c.loop-j.j _ (omega arith) grown, omega arith, λ i l. grown.ends i (omega arith), grown.long)

pub loop-j-preserved : goal.loop-j-preserved
unfolding catalan
loop-j-preserved c =
    let loop = c.loop-j in
    grown_turn _ _ _ _ _ _ _ loop.j loop.s (omega arith) (omega arith)
    (minus _ _ _ _ _ _ c.times-square.ensures.0 c.times-product.ensures.0 c.times-step.ensures.0) refl
    c.times-power.ensures loop.invariant

pub returns : goal.returns
returns c =
    let grown = c.loop-j.invariant in
    (grown_full _ _ _ _ _ _ (omega arith) grown, omega arith, λ i l. grown.ends i (omega arith), grown.long)
