use mathlib.Core.Path.{refl}
use native.Mathlib.Omega.{arith}
use borrow.Author.Rules.{rules}
use Rattle.spreading.proofs.Minima.{kept_more}
use Rattle.spreading.proofs.closest.Goals as goal

pub loop-i-preserved : goal.loop-i-preserved
loop-i-preserved c =
    let below = c.requires.below in
    kept_more _ _ c.loop-i.invariant (below _ (omega arith)) (below _ (omega arith)) refl c.abs_diff-way.ensures (search rules) (search rules)
