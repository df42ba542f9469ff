-- To be believed: the triple of a line, and its card.
use Rattle.std.specs.Prelude.{◌≡◌, ◌≢◌, Option, None, Some, List, [], ◌∷◌, ◌++◌, ℕ, take}
use Rattle.triples.specs.declared.Triple.{Triple}
use Rattle.triples.specs.Shuffles.{f, quadratic}
use Rattle.polynomials.specs.Inverses.{Inverted}
use Rattle.arp_forms.specs.Arp.{ArpNumbers}
use Rattle.spreading.specs.Spreads.{Spread}
use Rattle.refusals.specs.Refusals.{Acceptance}
use Rattle.cards.specs.declared.composing.Facts.{Facts}
use Rattle.cards.specs.Texts.{space, newline, Lists, fields, listing}

-- ---- the line

-- The numbers of a triple, in the order of a line and of a card.
abbrev pub members : Triple → List ℕ
members t = t.k ∷ t.f1 ∷ t.f2 ∷ []

-- The line, without its newline, is the numbers of the triple with one space between them.
pub record Reads (line : List ℕ) (t : Triple) : Type 0 where
  pub lists : Lists (members t) line

abbrev pub Unreadable : List ℕ → Type 0
Unreadable line = (t : Triple) → ¬ Reads line t

-- The triple of a readable line; None where it is not readable.
abbrev pub ReadAs : List ℕ → Option Triple → Type 0
ReadAs line None = Unreadable line
ReadAs line (Some t) = Reads line t

-- ---- its card

-- Bytes enough for any card.
abbrev pub room : ℕ
room = 256

-- The bytes of the three words.
abbrev pub unreadable_word : List ℕ
unreadable_word = 117 ∷ 110 ∷ 114 ∷ 101 ∷ 97 ∷ 100 ∷ 97 ∷ 98 ∷ 108 ∷ 101 ∷ []

abbrev pub refused_word : List ℕ
refused_word = 114 ∷ 101 ∷ 102 ∷ 117 ∷ 115 ∷ 101 ∷ 100 ∷ []

abbrev pub ok_word : List ℕ
ok_word = 111 ∷ 107 ∷ []

abbrev pub unreadable_card : List ℕ
unreadable_card = unreadable_word ++ (newline ∷ [])

-- The numbers of the triple, a word and numbers, with one space between them, and a newline.
abbrev pub row : Triple → List ℕ → List ℕ → List ℕ
row t word numbers = listing (members t) ++ (space ∷ (word ++ (fields numbers ++ (newline ∷ []))))

-- What the card of a shuffle tells of it: the inverse, P, Q and the spread.
pub record FactsOf (t : Triple) (r : Facts) : Type 0 where
  pub inverse : Inverted t.k (f t) r.degree r.a
  pub numbers : ArpNumbers t r.p r.q
  pub spread : Spread (f t) t.k r.spread

-- D, a1 to aD, P, Q and the spread.
abbrev pub told : Facts → List ℕ
told r = r.degree ∷ (take r.degree r.a ++ (r.p ∷ r.q ∷ r.spread ∷ []))

-- The card of a triple.
pub data TripleCard (t : Triple) (text : List ℕ) : Type 0 where
  refused : (n : ℕ) → Acceptance (quadratic t) n → n ≢ 0 → text ≡ row t refused_word (n ∷ []) → TripleCard t text
  accepted : (r : Facts) → Acceptance (quadratic t) 0 → FactsOf t r → text ≡ row t ok_word (told r) → TripleCard t text

-- The card of a line that comes without its newline.
pub data CardOf (line text : List ℕ) : Type 0 where
  unreadable : Unreadable line → text ≡ unreadable_card → CardOf line text
  readable : (t : Triple) → Reads line t → TripleCard t text → CardOf line text
