use native.Mathlib.Omega.{arith}
use Rattle.spreading.specs.Minima.{Least, entry, gap}
use Rattle.spreading.proofs.Ascending.{search_step, search_near, search_met}
use Rattle.spreading.proofs.Tables.{on_room, on_more, on_addresses, on_closest}
use Rattle.spreading.proofs.search.Goals as goal

pub bounds-list-end-in-loop-s : goal.bounds-list-end-in-loop-s
bounds-list-end-in-loop-s c =
    let so_far = c.loop-s.invariant in
    omega (arith, on_room c.requires so_far.searching so_far.on, so_far.searching.low)

pub closest-requires : goal.closest-requires
closest-requires c =
    let so_far = c.loop-s.invariant in
    on_addresses c.requires so_far.searching (on_more c.requires so_far.searching so_far.on)

pub returns-then-least-s : goal.returns-then-least-s
returns-then-least-s c =
    let so_far = c.loop-s.invariant in
    let closest : Least (gap (entry c.args.list.now) c.args.n c.loop-s.s) c.args.n c.loop-s.least c.min-least.result = on_closest c.requires so_far.searching (on_more c.requires so_far.searching so_far.on) c.closest.ensures (omega arith) in
    search_near _ _ so_far.searching (omega arith) closest (omega arith)

pub loop-s-preserved : goal.loop-s-preserved
loop-s-preserved c =
    let so_far = c.loop-s.invariant in
    let on = on_more c.requires so_far.searching so_far.on in
    let closest : Least (gap (entry c.args.list.now) c.args.n c.loop-s.s) c.args.n c.loop-s.least c.min-least.result = on_closest c.requires so_far.searching on c.closest.ensures (omega arith) in
    record { searching = search_step _ _ so_far.searching (omega arith) closest (omega arith); on = on }

pub returns : goal.returns
returns c = search_met _ _ c.loop-s.invariant.searching (omega arith)
