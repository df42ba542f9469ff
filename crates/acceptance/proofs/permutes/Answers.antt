-- Both returns are the rule, by the odd form: the gcd decides on f1, absorption on f2.
use native.Mathlib.Omega.{arith}
use Rattle.acceptance.proofs.OddForm.{in_form}
use Rattle.acceptance.proofs.Rule.{refused_by_gcd, decided_by_absorption}
use Rattle.acceptance.proofs.permutes.Goals as goal

pub returns-then-gcd-ne1 : goal.returns-then-gcd-ne1
returns-then-gcd-ne1 c = refused_by_gcd _ c.requires c.odd_form-odd.ensures c.gcd.ensures c.if-gcd-ne1.true

pub absorbs-requires : goal.absorbs-requires
absorbs-requires c =
    let r = in_form c.requires c.odd_form-odd.ensures in omega (arith, r.low, r.high, r.second)

pub returns : goal.returns
returns c =
    decided_by_absorption _ c.requires c.odd_form-odd.ensures c.gcd.ensures (omega arith) c.absorbs.ensures
