-- `run`: as many digits as the chain counts stand at the front.
use Rattle.std.proofs.Common.{sym, ◌∙◌, subst, rules, tests}
use Rattle.std.specs.Char.{is_ascii_digit}
use Rattle.std.proofs.lemmas.Iterator.{YieldsList-from_slice}
use Rattle.std.proofs.lemmas.Iterator.Consumers.{count_from_yields_List}
use Rattle.std.proofs.lemmas.Iterator.Search.{YieldsList-from_take_while}
use Rattle.std.proofs.lemmas.List.Folds.{length-prefix_len}
use Rattle.cards.specs.Fronts.{Run}
use Rattle.cards.proofs.Numerals.{run_found}
use Rattle.cards.proofs.reading.run.Goals as goal

pub returns : goal.returns
returns c =
    let text = c.args.text.now in
    let end = count_from_yields_List c.take_while.result _ c.count.ensures.ran (YieldsList-from_take_while _ is_ascii_digit (YieldsList-from_slice text cc) c.take_while.ensures.closure c.take_while.ensures.done (λ byte b q k. search (rules, tests))) ∙ length-prefix_len is_ascii_digit text in
    subst (Run text) (sym end) (run_found text)
