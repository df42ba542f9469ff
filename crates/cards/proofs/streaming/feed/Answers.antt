use native.Mathlib.Omega.{arith}
use Rattle.cards.proofs.Pieces.{feeding_start, feeding_turn}
use Rattle.cards.proofs.streaming.feed.Goals as goal

pub loop-taken-init : goal.loop-taken-init
loop-taken-init c = feeding_start c.requires

pub loop-taken-preserved : goal.loop-taken-preserved
loop-taken-preserved c =
    feeding_turn c.loop-taken.invariant (omega arith) c.take_byte.ensures c.take_byte.auto.out
