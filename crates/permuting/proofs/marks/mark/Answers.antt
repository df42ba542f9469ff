-- The answer rests on `marked_more`: the byte that is stored is the old one with the place's bit set. A 1 shifted by less than 8 fits a byte.
use Prim.Native.Nat.{◌%◌}
use native.Mathlib.Omega.{arith}
use lib.Dec.{lit<}
use lib.Pow.{shl_exact}
use Rattle.permuting.proofs.Bitmap.{marked_more}
use Rattle.permuting.proofs.marks.mark.Goals as goal

pub returns : goal.returns
returns c =
    let i = c.args.i in
    marked_more c.args.s.now i c.requires (shl_exact {a = 1} 1 (i % 8) 8 (lit< tt) (omega arith))
