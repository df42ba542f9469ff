-- The search finds the place of the row, or there is none.
use mathlib.Core.Path.{sym, ◌∙◌}
use borrow.Author.Rules.{rules}
use Rattle.std.proofs.lemmas.Fn.{always_returns_same}
use Rattle.triples.specs.declared.Triple.{Triple}
use Rattle.standard.proofs.Search.{found, missed}
use Rattle.standard.proofs.row_of.Goals as goal

pub returns-in_err-i : goal.returns-in_err-i
returns-in_err-i c =
    let searched = c.binary_search_by_key.ensures.position (λ (t : Triple). t.k) (always_returns_same _ _ _ (λ a r q k. search rules)) in
    rw c.from_residual.ensures
    (missed c.args.k c.binary_search_by_key.result (rw c.all_rows-rows.ensures at searched) (sym c.ok.ensures.value ∙ c.in_err-i.was))

pub returns : goal.returns
returns c =
    let searched = c.binary_search_by_key.ensures.position (λ (t : Triple). t.k) (always_returns_same _ _ _ (λ a r q k. search rules)) in
    rw c.all_rows-rows.ensures
    (found c.args.k c.binary_search_by_key.result (rw c.all_rows-rows.ensures at c.binary_search_by_key.ensures.bound) (rw c.all_rows-rows.ensures at searched) (sym c.ok.ensures.value ∙ c.in_ok-i.was))
