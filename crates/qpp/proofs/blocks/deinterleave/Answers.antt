-- The mover, with the map of the shuffle, did what was promised.
use mathlib.Core.Path.{refl}
use Rattle.qpp.proofs.MapMoves.{moved}
use Rattle.qpp.proofs.blocks.deinterleave.Goals as goal

pub returns : goal.returns
returns g c d = moved c.map_of.ensures c.in_ok-movable.ensures refl (c.deinterleave.ensures d)
