use mathlib.Core.Path.{refl, subst}
use Prim.Native.Nat.{ℕ}
use native.Mathlib.Nat.{pos_of_dvd_of_pos}
use native.Mathlib.Omega.{arith}
use lib.ListN.{get_or, replicate}
use borrow.Author.Rules.{rules}
use Rattle.polynomials.specs.Bounds.{Limit}
use Rattle.polynomials.proofs.Bounds.{limit_first, limits_more}
use Rattle.polynomials.proofs.limits.Goals as goal

pub loop-j-init : goal.loop-j-init
loop-j-init c =
    let k = c.args.k in
    (refl, λ i l. subst (λ (n : ℕ). Limit k n (get_or (replicate 14 k) n 0)) (omega arith) (limit_first (omega arith)))

pub nonzero_div-m : goal.nonzero_div-m
nonzero_div-m c = omega (arith, pos_of_dvd_of_pos {n = c.loop-j.j} c.gcd.ensures.right (omega arith))

pub loop-j-preserved : goal.loop-j-preserved
loop-j-preserved c =
    let loop = c.loop-j in
    (search rules, limits_more (omega arith) loop.m loop.j c.gcd.result (omega arith) (omega arith) loop.invariant.1 c.gcd.ensures)

-- past the last place
pub returns-2 : goal.returns-2
returns-2 c =
    let loop = c.loop-j in
    λ i l. limits_more (omega arith) loop.m loop.j c.gcd.result (omega arith) (omega arith) loop.invariant.1 c.gcd.ensures i (omega arith)
