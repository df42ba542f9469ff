-- The series of the odd form undoes it; reduced, it is the inverse, and the odd form is the same f.
use Rattle.inverting.proofs.OddInverse.{answer, invertible, inverted_odd, unit_given}
use Rattle.inverting.proofs.inverse.Goals as goal

pub reciprocal-r-requires : goal.reciprocal-r-requires
reciprocal-r-requires c = unit_given c.requires c.odd_form-odd.ensures

pub returns : goal.returns
returns c =
    let s = c.requires in
    inverted_odd s c.odd_form-odd.ensures
    (answer c.odd_form-odd.result c.reciprocal-r.result c.degree-degree.result _ c.reduce.new.q _
    (invertible s c.odd_form-odd.ensures c.reciprocal-r.ensures) c.series-top.ensures.0 c.reduce.ensures.0
    c.degree-degree.ensures.0 c.degree-degree.ensures.1 c.reduce.ensures.2 c.without_constant-a.ensures)
