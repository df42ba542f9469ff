-- The two lists compute to the same.
use mathlib.Core.Path.{refl}
use Rattle.standard.specs.Rows.{rows}
use Rattle.standard.proofs.table.all_rows.Goals as goal

pub returns : goal.returns
unfolding rows
returns c = refl
