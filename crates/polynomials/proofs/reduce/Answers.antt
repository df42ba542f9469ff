use mathlib.Core.Path.{sym, subst}
use mathlib.Core.List.{List}
use Prim.Native.Nat.{ℕ, ◌-◌, ◌<◌}
use native.Mathlib.Omega.{arith}
use Rattle.polynomials.proofs.Reductions.{Reducing, reducing_skip, reducing_step, reducing_end}
use Rattle.polynomials.proofs.reduce.Goals as goal
use Rattle.polynomials.proofs.reduce.Goals.{then-limit-a, else-limit-a}

pub loop-n-preserved : goal.loop-n-preserved
loop-n-preserved c =
    let n = c.loop-n.n in
    let limit = c.limits-m.ensures n (omega arith) in
    let n0 : 0 < n = omega arith in
    let done : List ℕ → Type 0 = λ q. Reducing c.args.k c.args.top c.args.q.now q (n - 1) in
    elim c.if-limit-a.branch [
      | then-limit-a w ↦ subst done (sym w.q-is) (reducing_step c.requires n0 limit c.loop-n.invariant _ w.add_rising.ensures)
      | else-limit-a w ↦ subst done (sym w.q-is) (reducing_skip c.requires n0 limit c.loop-n.invariant (omega arith))
    ]

pub returns : goal.returns
returns c =
    let inv = c.loop-n.invariant in
    (reducing_end c.requires (omega arith) inv, inv.ends, inv.places)
