-- What a card tells of a shuffle, and that no second card fits.
use mathlib.Core.Path.{◌≡◌, sym, ap, subst, ◌∙◌}
use mathlib.Core.List.{List, [], ◌∷◌}
use Prim.Native.Nat.{ℕ}
use Rattle.triples.specs.declared.Triple.{Triple}
use Rattle.triples.specs.Shuffles.{quadratic}
use Rattle.polynomials.proofs.Inverses.{inverted_one}
use Rattle.arp_forms.proofs.ArpForms.{arp_numbers_one}
use Rattle.spreading.proofs.Spreads.{spread_one}
use Rattle.refusals.proofs.Acceptance.{acceptance_one}
use Rattle.cards.specs.declared.composing.Facts.{Facts}
use Rattle.cards.specs.Texts.{Wrote}
use Rattle.cards.specs.Cards.{refused_word, ok_word, row, FactsOf, told, TripleCard, refused, accepted, CardOf, unreadable, readable}
use Rattle.cards.proofs.Buffers.{wrote_one}
use Rattle.cards.proofs.Grammar.{reads_one}

-- what is told of a shuffle is one thing
facts_one : {t : Triple} {r s : Facts} → FactsOf t r → FactsOf t s → told r ≡ told s
facts_one {t} {r} {s} x y =
    let i : (r.degree ≡ s.degree) × (r.a ≡ s.a) = inverted_one x.inverse y.inverse in
    let n : (r.p ≡ s.p) × (r.q ≡ s.q) = arp_numbers_one x.numbers y.numbers in
    let e : r.spread ≡ s.spread = spread_one x.spread y.spread in
    cc

triple_card_one : {t : Triple} {a b : List ℕ} → TripleCard t a → TripleCard t b → a ≡ b
triple_card_one {t} (refused n a _ p) (refused m b _ q) = p ∙ ap (λ (x : ℕ). row t refused_word (x ∷ [])) (acceptance_one (quadratic t) a b) ∙ sym q
triple_card_one {t} (refused n a ne _) (accepted _ b _ _) = absurd (ne (acceptance_one (quadratic t) a b))
triple_card_one {t} (accepted _ a _ _) (refused m b ne _) = absurd (ne (acceptance_one (quadratic t) b a))
triple_card_one {t} (accepted _ _ w p) (accepted _ _ v q) = p ∙ ap (row t ok_word) (facts_one w v) ∙ sym q

pub card_one : {line a b : List ℕ} → CardOf line a → CardOf line b → a ≡ b
card_one (unreadable _ p) (unreadable _ q) = p ∙ sym q
card_one (unreadable none _) (readable t r _) = absurd (none t r)
card_one (readable t r _) (unreadable none _) = absurd (none t r)
card_one {a = a} (readable t r c) (readable u s d) = triple_card_one (subst (λ (x : Triple). TripleCard x a) (reads_one r s) c) d

-- and so no second buffer and no second end
pub card_at_one : {line before a b : List ℕ} {at end end' : ℕ} → Wrote (CardOf line) before at a end → Wrote (CardOf line) before at b end'
    → (a ≡ b) × (end ≡ end')
card_at_one = wrote_one (λ s t. card_one)
