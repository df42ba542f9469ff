-- No second answer is shown as the same: what C is handed tells what the call answered.
use mathlib.Core.Path.{◌≡◌, refl, ap}
use Prim.Native.Nat.{ℕ}
use Rattle.std.specs.Prelude.{Result}
use Rattle.inverting.specs.declared.Polynomial.{Polynomial}
use Rattle.refusals.specs.declared.refusal.Refusal.{Refusal}
use Rattle.refusals.proofs.Numbers.{shown_one}
use Rattle.qpp.specs.declared.answers.Value.{Value}
use Rattle.qpp.specs.declared.explanations.Explanation.{Explanation}
use Rattle.qpp.specs.declared.walker.Walker.{Walker}
use Rattle.qpp.specs.declared.walker.Start.{Start}
use Rattle.qpp.specs.Answers.{value_of, inverse_form_of, arp_form_of, reason_of}
use Rattle.qpp.specs.Steps.{start_of, step_of}

pub value_shown_one : (r s : Result ℕ Refusal) → value_of r ≡ value_of s → r ≡ s
value_shown_one = shown_one value_of (λ v. v.number) (λ _. refl) (λ _. refl) (λ a b e. ap (λ (v : Value). v.value) e)

pub inverse_shown_one : (r s : Result Polynomial Refusal) → inverse_form_of r ≡ inverse_form_of s → r ≡ s
inverse_shown_one = shown_one inverse_form_of (λ v. v.number) (λ _. refl) (λ _. refl) (λ a b e i. record { degree = (e i).degree; a = (e i).a })

pub arp_shown_one : (r s : Result (ℕ × ℕ) Refusal) → arp_form_of r ≡ arp_form_of s → r ≡ s
arp_shown_one = shown_one arp_form_of (λ v. v.number) (λ _. refl) (λ _. refl) (λ a b e i. ((e i).p, (e i).q))

pub reason_shown_one : (r s : Result Explanation Refusal) → reason_of r ≡ reason_of s → r ≡ s
reason_shown_one =
    shown_one reason_of (λ v. v.number) (λ _. refl) (λ _. refl)
    (λ a b e i. record { pair = record { y = (e i).y; x = (e i).x; address = (e i).address }; prime = (e i).prime })

pub start_shown_one : (r s : Result Walker Refusal) → start_of r ≡ start_of s → r ≡ s
start_shown_one = shown_one start_of (λ v. v.number) (λ _. refl) (λ _. refl) (λ a b e. ap (λ (v : Start). v.walker) e)

pub step_shown_one : (r s : Result (ℕ × Walker) Refusal) → step_of r ≡ step_of s → r ≡ s
step_shown_one = shown_one step_of (λ v. v.number) (λ _. refl) (λ _. refl) (λ a b e i. ((e i).address, (e i).walker))
