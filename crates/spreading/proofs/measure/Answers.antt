-- The answer rests on `table_spread`: the table that was filled lists the addresses, and so its spread is theirs.
use native.Mathlib.Omega.{arith}
use Rattle.spreading.proofs.Spreads.{table_round, table_spread}
use Rattle.spreading.proofs.measure.Goals as goal

pub fill-requires : goal.fill-requires
fill-requires c =
    (c.requires.0, omega (arith, c.requires.1.within))

pub search-requires : goal.search-requires
search-requires c =
    table_round c.args.t c.fill.ensures c.requires.0 c.requires.1

pub returns : goal.returns
returns c =
    table_spread c.args.t c.fill.ensures c.requires.0 c.search.ensures
