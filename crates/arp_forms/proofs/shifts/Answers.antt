-- What was filled in are the addresses of the odd form without its first coefficient, which are the shifts.
use Rattle.numbers.proofs.Lists.{written_same}
use Rattle.arp_forms.proofs.ArpForms.{without_first}
use Rattle.arp_forms.proofs.shifts.Goals as goal

pub returns : goal.returns
returns c =
    written_same (λ i _. without_first c.args.form.odd i) c.fill.ensures
