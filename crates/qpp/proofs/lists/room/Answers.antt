-- The numbers of a form are tested, and its Q is the only period.
use Rattle.arp_forms.proofs.ArpForms.{period_one}
use Rattle.refusals.proofs.Lengths.{needed_entries}
use Rattle.qpp.proofs.lists.room.Goals as goal

pub returns-clause-tested : goal.returns-clause-tested
returns-clause-tested c =
    let period = c.requires.numbers.period in needed_entries c.args.form.q c.args.size period (λ m other. period_one other period) c.entries.ensures
