-- The entries before the present one are written, the others are not, and the stride stands there.
use Rattle.triples.proofs.Rows.{Listing}
use Rattle.triples.proofs.listing.fill.Given as goal

abbrev pub invariant-loop-entry : goal.invariant-loop-entry
invariant-loop-entry l = Listing l.entry-index-end l.initial.entry-items l.entry-items l.initial.at l.at l.entry-index
