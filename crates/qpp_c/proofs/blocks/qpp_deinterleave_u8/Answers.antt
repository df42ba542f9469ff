-- The library promises it whatever `get_or` answers past an end. The clause names 0.
use Rattle.qpp_c.proofs.blocks.qpp_deinterleave_u8.Goals as goal

pub returns : goal.returns
returns c = rw c.number.ensures (c.deinterleave.ensures 0)
