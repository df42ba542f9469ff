-- No second answer fits: one law for each call. (Of acceptance: `acceptance_one`, beside the table.)
use mathlib.Core.Path.{◌≡◌, refl, sym, ap, ◌∙◌}
use mathlib.Core.List.{List}
use Prim.Native.Nat.{ℕ, ◌%◌}
use Rattle.numbers.proofs.Reciprocals.{reciprocal_one}
use Rattle.polynomials.proofs.Inverses.{inverted_one}
use Rattle.arp_forms.proofs.ArpForms.{arp_one}
use Rattle.spreading.proofs.Spreads.{spread_one}
use Rattle.numbers.proofs.Lists.{written_one}
use Rattle.permuting.specs.Formulas.{Formula}
use Rattle.triples.specs.declared.Triple.{Triple}
use Rattle.triples.specs.Shuffles.{quadratic, odd_form}
use Rattle.qpp.specs.declared.answers.Value.{Value}
use Rattle.qpp.specs.declared.answers.InverseForm.{InverseForm}
use Rattle.qpp.specs.declared.answers.ArpForm.{ArpForm}
use Rattle.qpp.specs.declared.answers.Reason.{Reason}
use Rattle.qpp.specs.declared.walker.Walker.{Walker}
use Rattle.qpp.specs.declared.walker.Start.{Start}
use Rattle.qpp.specs.declared.walker.Step.{Step}
use Rattle.qpp.specs.Walkers.{Started, Stepped}
use Rattle.qpp.specs.Promises.{Address, ReciprocalOf, AddressList, ArpOf, SpreadOf, InverseOf, ReasonOf}
use Rattle.explaining.specs.Reasons.{FirstCollision, LeastFailing}
use Rattle.explaining.proofs.Collisions.{collision_one}
use Rattle.explaining.proofs.Failures.{least_failing_one}
use Rattle.refusals.proofs.Answers.{answer_one}

value_same : {r s : Value} → (r.number ≡ s.number) × (r.value ≡ s.value) → r ≡ s
value_same e = λ i. record { number = e.0 i; value = e.1 i }

-- positions with the same remainder by K have the same answer
pub address_of_remainder : (φ : Formula) (x y : ℕ) {r s : Value} → x % φ.length ≡ y % φ.length → Address φ x r → Address φ y s → r ≡ s
address_of_remainder φ x y e a b = value_same (answer_one (λ p q. p ∙ ap φ.map e ∙ sym q) (λ p q. p ∙ sym q) a b)

pub address_one : (φ : Formula) (x : ℕ) {r s : Value} → Address φ x r → Address φ x s → r ≡ s
address_one φ x = address_of_remainder φ x x refl

pub reciprocal_of_one : {t : Triple} {r s : Value} → ReciprocalOf t r → ReciprocalOf t s → r ≡ s
reciprocal_of_one {t} {r} {s} a b =
    value_same (answer_one (reciprocal_one t.k (odd_form t).f1 r.value s.value) (λ p q. p ∙ sym q) a b)

pub started_one : {t : Triple} {r s : Start} → Started t r → Started t s → r ≡ s
started_one {t} {r} {s} a b =
    let e = answer_one (λ p q. p ∙ sym q) (λ p q. p ∙ sym q) a b in λ i. record { number = e.0 i; walker = e.1 i }

pub stepped_one : {w : Walker} {r s : Step} → Stepped w r → Stepped w s → r ≡ s
stepped_one {w} {r} {s} a b =
    let e = answer_one both both a b in λ i. record { number = e.0 i; address = e.1.0 i; walker = e.1.1 i }
  where
    both : {a : ℕ} {v : Walker} → (r.address ≡ a) × (r.walker ≡ v) → (s.address ≡ a) × (s.walker ≡ v)
        → (r.address ≡ s.address) × (r.walker ≡ s.walker)
    both p q = (p.0 ∙ sym q.0, p.1 ∙ sym q.1)

pub address_list_one : (φ : Formula) {before : List ℕ} {n m : ℕ} {a b : List ℕ} → AddressList φ before n a → AddressList φ before m b → (n ≡ m) × (a ≡ b)
address_list_one φ = answer_one written_one (λ p q. p ∙ sym q)

pub arp_of_one : {t : Triple} {before : List ℕ} {r s : ArpForm} {a b : List ℕ} → ArpOf t before r a → ArpOf t before s b → (r ≡ s) × (a ≡ b)
arp_of_one {t} {before} {r} {s} {a} {b} x y =
    let e = answer_one arp_one nothing x y in ((λ i. record { number = e.0 i; p = e.1.0 i; q = e.1.1 i }), e.1.2)
  where
    nothing : (r.p ≡ 0) × (r.q ≡ 0) × (a ≡ before) → (s.p ≡ 0) × (s.q ≡ 0) × (b ≡ before) → (r.p ≡ s.p) × (r.q ≡ s.q) × (a ≡ b)
    nothing m n = (m.0 ∙ sym n.0, m.1 ∙ sym n.1, m.2 ∙ sym n.2)

pub spread_of_one : (φ : Formula) {r s : Value} → SpreadOf φ r → SpreadOf φ s → r ≡ s
spread_of_one φ a b = value_same (answer_one spread_one (λ p q. p ∙ sym q) a b)

pub inverse_of_one : {t : Triple} {r s : InverseForm} → InverseOf t r → InverseOf t s → r ≡ s
inverse_of_one {t} {r} {s} x y =
    let e = answer_one inverted_one (λ p q. (p.0 ∙ sym q.0, p.1 ∙ sym q.1)) x y in
    λ i. record { number = e.0 i; degree = e.1.0 i; a = e.1.1 i }

pub reason_of_one : {t : Triple} {r s : Reason} → ReasonOf t r → ReasonOf t s → r ≡ s
reason_of_one {t} {r} {s} a b =
    let e = answer_one done nothing a b in
    λ i. record { number = e.0 i; y = e.1.0 i; x = e.1.1 i; address = e.1.2 i; prime = e.1.3 i }
  where
    Same : Type 0
    Same = (r.y ≡ s.y) × (r.x ≡ s.x) × (r.address ≡ s.address) × (r.prime ≡ s.prime)

    done : FirstCollision (quadratic t) r.y r.x r.address × LeastFailing t r.prime
        → FirstCollision (quadratic t) s.y s.x s.address × LeastFailing t s.prime → Same
    done p q = let c = collision_one (quadratic t) p.0 q.0 in (c.0, c.1, c.2, least_failing_one p.1 q.1)

    nothing : (r.y ≡ 0) × (r.x ≡ 0) × (r.address ≡ 0) × (r.prime ≡ 0) → (s.y ≡ 0) × (s.x ≡ 0) × (s.address ≡ 0) × (s.prime ≡ 0) → Same
    nothing p q = (p.0 ∙ sym q.0, p.1 ∙ sym q.1, p.2 ∙ sym q.2, p.3 ∙ sym q.3)
