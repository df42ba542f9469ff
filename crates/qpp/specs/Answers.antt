-- To be believed: each answer as C has it: 0 and what was asked for, or the number of a refusal and zeros.
use Rattle.std.specs.Prelude.{ℕ, Result, Ok, Err, replicate}
use Rattle.inverting.specs.declared.Polynomial.{Polynomial}
use Rattle.refusals.specs.declared.refusal.Refusal.{Refusal}
use Rattle.refusals.specs.Numbers.{number_of}
use Rattle.qpp.specs.declared.answers.Value.{Value}
use Rattle.qpp.specs.declared.answers.InverseForm.{InverseForm}
use Rattle.qpp.specs.declared.answers.ArpForm.{ArpForm}
use Rattle.qpp.specs.declared.answers.Reason.{Reason}
use Rattle.qpp.specs.declared.explanations.Explanation.{Explanation}

abbrev pub value_of : Result ℕ Refusal → Value
value_of (Ok v) = record { number = 0; value = v }
value_of (Err refusal) = record { number = number_of refusal; value = 0 }

abbrev pub inverse_form_of : Result Polynomial Refusal → InverseForm
inverse_form_of (Ok g) = record { number = 0; degree = g.degree; a = g.a }
inverse_form_of (Err refusal) = record { number = number_of refusal; degree = 0; a = replicate 13 0 }

abbrev pub arp_form_of : Result (ℕ × ℕ) Refusal → ArpForm
arp_form_of (Ok (p, q)) = record { number = 0; p = p; q = q }
arp_form_of (Err refusal) = record { number = number_of refusal; p = 0; q = 0 }

abbrev pub reason_of : Result Explanation Refusal → Reason
reason_of (Ok e) = record { number = 0; y = e.pair.y; x = e.pair.x; address = e.pair.address; prime = e.prime }
reason_of (Err refusal) = record { number = number_of refusal; y = 0; x = 0; address = 0; prime = 0 }
