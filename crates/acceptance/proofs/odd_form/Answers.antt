-- Each return is the odd form by its cases: the triple itself, unless K and f1 are both even.
use native.Mathlib.Omega.{arith}
use Rattle.acceptance.proofs.OddForm.{own_form, even_form}
use Rattle.acceptance.proofs.odd_form.Goals as goal

pub returns-then-t-ne0 : goal.returns-then-t-ne0
returns-then-t-ne0 c = own_form _ (λ even. absurd (c.if-t-ne0.true even))

pub returns-then-t-ne0-2 : goal.returns-then-t-ne0-2
returns-then-t-ne0-2 c = own_form _ (λ _. c.if-t-ne0-2.true)

pub returns : goal.returns
returns c = even_form _ (omega arith) (omega arith)
