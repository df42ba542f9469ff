-- The answer rests on `bit_read`: the bit that shift and mask read is the one that the list of yes and no has at the place.
use mathlib.Core.Path.{sym, ◌∙◌}
use Prim.Native.Nat.{◌/◌, ◌%◌}
use lib.ListN.{get_or}
use Rattle.permuting.specs.Bitmap.{marked}
use Rattle.permuting.proofs.Bitmap.{bit_read, get_or_marks}
use Rattle.permuting.proofs.marks.is_marked.Goals as goal

pub returns : goal.returns
unfolding marked
returns c =
    let a = c.args in
    λ k h. get_or_marks k a.s.now a.i h ∙ sym (bit_read (get_or a.s.now (a.i / 8) 0) (a.i % 8))
