-- The table follows the polynomials, by one test over the whole of it.
use mathlib.Core.Path.{refl}
use Rattle.coding.proofs.States.{tabled}
use Rattle.coding.proofs.trellis.table.Goals as goal

pub returns : goal.returns
returns c = tabled refl tt
