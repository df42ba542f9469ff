use Rattle.moving.proofs.Walks.{begun, fewer, deinterleaved, deinterleaved_round, moved}
use Rattle.moving.proofs.deinterleaving.deinterleave.Goals as goal

pub loop-start-init : goal.loop-start-init
loop-start-init g c = begun c.requires.permutes c.requires.block_size c.requires.scratch_size c.wipe.ensures c.first_free-start.ensures

pub cycle-smaller : goal.cycle-smaller
cycle-smaller g c = fewer c.loop-start.invariant c.cycle.invariant c.step-next.ensures.marked

pub cycle-preserved : goal.cycle-preserved
cycle-preserved g c = deinterleaved c.loop-start.invariant c.cycle.invariant c.step-next.ensures c.index-block-next.is c.if-next-start.false

pub loop-start-preserved : goal.loop-start-preserved
loop-start-preserved g c =
    deinterleaved_round c.loop-start.invariant c.cycle.invariant c.step-next.ensures c.if-next-start.true
    c.first_free-start-in-loop-start.ensures

pub returns : goal.returns
returns g c = moved c.loop-start.invariant c.wipe.ensures c.loop-start-test.false c.wipe-2.ensures
