use borrow.Author.Rules.{rules}
use mathlib.Core.Logic.{by_cases}
use native.Mathlib.Decide.{dec_lt}
use native.Mathlib.Omega.{arith}
use Rattle.permuting.proofs.Bitmap.{byte_marked}
use Rattle.permuting.proofs.marks.first_free.Goals as goal

pub loop-i-preserved-then-s-i : goal.loop-i-preserved-then-s-i
loop-i-preserved-then-s-i c =
    let l = c.loop-i in
    let args = c.args in
    let full = byte_marked args.n args.s.now l.i in
    (search rules, omega arith, λ j a b. by_cases (dec_lt j l.i) (l.invariant.2 j a) (λ q. full j (omega arith) c.if-s-i.true (omega arith) (omega arith)))
