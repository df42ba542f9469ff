-- In the odd form f1 is a unit.
use Rattle.inverting.proofs.OddInverse.{unit_given}
use Rattle.inverting.proofs.reciprocal.Goals as goal

pub reciprocal-requires : goal.reciprocal-requires
reciprocal-requires c = unit_given c.requires c.odd_form-odd.ensures
