-- Refused by the triple or by the length of the list; otherwise what `shifts` wrote, with P and Q.
use mathlib.Core.Path.{refl}
use Rattle.std.proofs.lemmas.Result.{err_from_is_err_and}
use Rattle.arp_forms.proofs.ArpForms.{arp_form}
use Rattle.refusals.proofs.Answers.{refuse_late, answer_late}
use Rattle.refusals.proofs.Acceptance.{accepted}
use Rattle.refusals.proofs.Numbers.{never_zero}
use Rattle.qpp.proofs.lists.arp.Goals as goal

pub returns-in_err-room : goal.returns-in_err-room
returns-in_err-room c =
    let p = err_from_is_err_and c.from_residual-in_err-room.result c.from_residual-in_err-room.ensures.1 in
    rw (p.1, p.2) (refuse_late tt c.in_ok-accept.ensures refl refl c.in_err-room.ensures.tested (never_zero _) (refl, refl, refl))

pub returns : goal.returns
returns c =
    let judged = c.in_ok-accept.ensures in
    answer_late tt judged refl c.in_ok-room.ensures.tested refl
    (arp_form (accepted judged refl) c.form_of-form.ensures.numbers c.form_of-form.ensures.odd c.shifts.ensures)
