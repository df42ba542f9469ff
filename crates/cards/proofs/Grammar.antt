-- One number stands at the front of a text, with one rest after it, and so a line reads in one way.
use mathlib.Core.Path.{◌≡◌, refl, sym, ap, subst, ◌∙◌}
use mathlib.Core.List.{List, [], ◌∷◌, ◌++◌, append-nil}
use Prim.Native.Nat.{ℕ, ◌+◌, ◌*◌, ◌≤◌, ◌<◌}
use native.Mathlib.Omega.{arith}
use lib.ListN.{length, get_or, take, take-append-drop, length-append}
use lib.Dec.{eqb-suc-zero}
use Rattle.triples.specs.declared.Triple.{Triple}
use Rattle.triples.specs.Shuffles.{triple}
use Rattle.std.specs.Prelude.{Option, None, Some, MatchOption, ◌==◌}
use Rattle.std.specs.Bool.{then_some}
use Rattle.cards.specs.Texts.{space, Digits, spelt, most_digits, Number, Begins, Lists}
use Rattle.cards.specs.Cards.{members, Reads, ReadAs}
use Rattle.cards.specs.Output.{kept}
use Rattle.cards.specs.Fronts.{Stops, Run, Front, NoFront, Anything, NoMore}
use Rattle.cards.proofs.Numerals.{no_digit_low, run_length}

-- digits end in one place
digits_one : (a b : List ℕ) {x y : List ℕ} → Digits a → Digits b → Stops x → Stops y → a ++ x ≡ b ++ y → (a ≡ b) × (x ≡ y)
digits_one [] [] da db sx sy e = (refl, e)
digits_one [] (d ∷ b) da (digit, more) sx sy e = absurd (subst Stops e sx digit)
digits_one (d ∷ a) [] (digit, more) db sx sy e = absurd (subst Stops (sym e) sy digit)
digits_one (c ∷ a) (d ∷ b) {x} {y} (_, da) (_, db) sx sy e =
    let h : c ≡ d = cc in
    let t : a ++ x ≡ b ++ y = cc in
    let r : (a ≡ b) × (x ≡ y) = digits_one a b da db sx sy t in
    ((cc), r.1)

front_one : {text : List ℕ} {n m : ℕ} {rest other : List ℕ} → Front text n rest → Front text m other → (n ≡ m) × (rest ≡ other)
front_one p q =
    let e = digits_one p.front q.front p.number.digits q.number.digits p.stops q.stops (sym p.split ∙ q.split) in
    (p.number.stands_for ∙ ap (spelt 0) e.0 ∙ sym q.number.stands_for, e.1)

space_stops : (more : List ℕ) → Stops (space ∷ more)
space_stops more = no_digit_low (omega arith)

-- ---- the searches, as the code makes them

-- too few digits or too many
pub no_number : {text : List ℕ} {end : ℕ} → Run text end → (1 ≤ end → end ≤ most_digits → ⊥) → NoFront Anything text
no_number {text} {end} r few m other _ f =
    let same = sym f.split ∙ sym (take-append-drop end text) in
    let e = digits_one f.front (take end text) f.number.digits r.digits f.stops r.stops same in
    let l : length f.front ≡ end = ap length e.0 ∙ run_length r in
    few (omega (arith, f.number.some)) (omega (arith, f.number.few))

-- what the search for any number says of one with a space after it, and of one that is the whole text: no number, so none with such a
-- rest; and another rest
pub none_such : (Such : List ℕ → Type 0) {text : List ℕ} → NoFront Anything text → NoFront Such text
none_such Such none m other _ = none m other tt

pub other_rest : (Such : List ℕ → Type 0) {text rest : List ℕ} {n : ℕ} → Front text n rest → ¬ Such rest → NoFront Such text
other_rest Such f not m other such g = not (subst Such (sym (front_one f g).1) such)

pub whole_or_none : {text : List ℕ} {n : ℕ} (rest : List ℕ) → Front text n rest
    → MatchOption (then_some (length rest == 0) n) (NoFront NoMore text) (λ m. Front text m [])
whole_or_none [] f = f
whole_or_none (b ∷ rest) f = rw (eqb-suc-zero (length rest)) (other_rest NoMore f (λ e. cc))

-- ---- a number, a space and such a rest

-- what comes after the space is one text
after_space : {text a b : List ℕ} {n m : ℕ} → Front text n (space ∷ a) → Front text m (space ∷ b) → a ≡ b
after_space {text} {a} {b} p q = let e : space ∷ a ≡ space ∷ b = (front_one p q).1 in cc

module _ {Such : List ℕ → Type 0} {text : List ℕ} {n : ℕ} where
  pub begins_front : (b : Begins n Such text) → Front text n (space ∷ b.rest)
  begins_front b = record { front = b.first; number = b.number; split = b.split; stops = space_stops b.rest }

  pub begins : {a : List ℕ} → Front text n (space ∷ a) → Such a → Begins n Such text
  begins {a} p such = record { first = p.front; rest = a; split = p.split; number = p.number; such = such }

  pub begins_rest : {a : List ℕ} {m : ℕ} → Begins n Such text → Front text m (space ∷ a) → Such a
  begins_rest b p = subst Such (after_space (begins_front b) p) b.such

pub number_front : {text : List ℕ} {n : ℕ} → Number text n → Front text n []
number_front {text} w = record { front = text; number = w; split = sym (append-nil text); stops = tt }

-- ---- numbers with one space between them

-- one number is the whole text, or is not
one_or_more : {text : List ℕ} {n m : ℕ} {Such : List ℕ → Type 0} → Number text n → Begins m Such text → ⊥
one_or_more p b = let z = ap length (front_one (number_front p) (begins_front b)).1 in omega arith

-- a text lists one row of numbers
lists_one : (a b text : List ℕ) → Lists a text → Lists b text → a ≡ b
lists_one [] b text p q = absurd p
lists_one (n ∷ []) [] text p q = absurd q
lists_one (n ∷ m ∷ a) [] text p q = absurd q
lists_one (n ∷ []) (n' ∷ []) text p q = ap (λ (x : ℕ). x ∷ []) (p.stands_for ∙ sym q.stands_for)
lists_one (n ∷ []) (n' ∷ m' ∷ b) text p q = absurd (one_or_more p q)
lists_one (n ∷ m ∷ a) (n' ∷ []) text p q = absurd (one_or_more q p)
lists_one (n ∷ m ∷ a) (n' ∷ m' ∷ b) text p q =
    let e : n ≡ n' = (front_one (begins_front p) (begins_front q)).0 in
    let w : m ∷ a ≡ m' ∷ b = lists_one (m ∷ a) (m' ∷ b) p.rest p.such (begins_rest q (begins_front p)) in
    cc

lists_short : (numbers text : List ℕ) → Lists numbers text → length text < (most_digits + 1) * length numbers
lists_short [] text p = absurd p
lists_short (n ∷ []) text p = omega (arith, p.few)
lists_short (n ∷ m ∷ more) text p =
    let e : length text ≡ length p.first + length (space ∷ p.rest) = ap length p.split ∙ length-append p.first (space ∷ p.rest) in
    omega (arith, p.number.few, lists_short (m ∷ more) p.rest p.such)

-- ---- a line

pub reads_one : {line : List ℕ} {t u : Triple} → Reads line t → Reads line u → t ≡ u
reads_one {line} {t} {u} p q =
    ap (λ (l : List ℕ). triple (get_or l 0 0) (get_or l 1 0) (get_or l 2 0)) (lists_one (members t) (members u) line p.lists q.lists)

pub reads_short : {line : List ℕ} {t : Triple} → Reads line t → length line < kept
reads_short {line} {t} r = lists_short (members t) line r.lists

-- no second answer fits
pub read_one : (line : List ℕ) (r s : Option Triple) → ReadAs line r → ReadAs line s → r ≡ s
read_one line None None _ _ = refl
read_one line None (Some t) none reads = absurd (none t reads)
read_one line (Some t) None reads none = absurd (none t reads)
read_one line (Some t) (Some u) a b = ap Some (reads_one a b)
