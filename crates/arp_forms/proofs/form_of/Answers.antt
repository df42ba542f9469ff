-- P and Q are those of the odd form that was made, and so of the odd form.
use mathlib.Core.Path.{ap, subst}
use native.Mathlib.Omega.{arith}
use Rattle.triples.specs.declared.Triple.{Triple}
use Rattle.acceptance.proofs.OddForm.{odd_form_lem, in_form}
use Rattle.arp_forms.specs.Arp.{Period}
use Rattle.arp_forms.proofs.form_of.Goals as goal

pub period-requires : goal.period-requires
period-requires c = in_form c.requires c.odd_form-odd.ensures

pub returns : goal.returns
returns c =
    let e = c.odd_form-odd.ensures in
    record {
      numbers =
          record { first = ap (λ (o : Triple). o.f1) e; period = subst (λ (o : Triple). Period o c.period.result) e c.period.ensures.0 };
      few = omega (arith, c.period.ensures.1, ap (λ (o : Triple). o.k) e, (odd_form_lem c.args.t c.requires).length);
      odd = e;
      range = in_form c.requires e;
    }
