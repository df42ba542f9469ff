-- The invariant: every place from `from` up to i is marked. The measure is what is left up to n, and it falls: i goes up by one, or past a
-- full byte, which marks every place that it holds.
use mathlib.Core.Path.{◌≡◌}
use mathlib.Core.Bool.{true, false}
use Prim.Native.Nat.{ℕ, ◌-◌, ◌≤◌, ◌<◌}
use lib.ListN.{get_or}
use Rattle.permuting.specs.Bitmap.{marks}
use Rattle.permuting.proofs.marks.first_free.Given as goal

abbrev pub invariant-loop-i : goal.invariant-loop-i
invariant-loop-i l = (l.i ≤ l.n) × (l.from ≤ l.i) × ((j : ℕ) → l.from ≤ j → j < l.i → get_or (marks l.n l.s) j false ≡ true)

abbrev pub decreases-loop-i : goal.decreases-loop-i
decreases-loop-i l = l.n - l.i
