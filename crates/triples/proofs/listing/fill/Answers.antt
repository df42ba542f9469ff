use native.Mathlib.Omega.{arith}
use Rattle.triples.proofs.Rows.{listing_step}
use Rattle.triples.proofs.listing.fill.Goals as goal

pub loop-entry-preserved : goal.loop-entry-preserved
loop-entry-preserved c =
    listing_step c.loop-entry.invariant c.loop-entry-test.true (omega (arith, c.loop-entry-test.true, c.loop-entry.auto.entry-items)) c.next-at.ensures
