-- The first collision of a formula: one pair fits, there is one unless the formula permutes, and how a search with marks comes to it.
use mathlib.Core.Path.{◌≡◌, refl, sym, ap, ◌∙◌, subst}
use mathlib.Core.Logic.{◌≢◌, ◌⊎◌, inl, inr, ⊎_elim, by_cases}
use mathlib.Core.List.{List}
use mathlib.Core.Bool.{Bool, true, false}
use Prim.Native.Nat.{ℕ, ◌+◌, ◌*◌, ◌≤◌, ◌<◌}
use native.Mathlib.Decide.{ℕ_discrete, dec_lt}
use native.Mathlib.Omega.{arith}
use lib.ListN.{length}
use Rattle.numbers.proofs.Computation.{FirstBelow, first_or_none}
use Rattle.permuting.specs.Formulas.{Formula, Permutes}
use Rattle.permuting.proofs.Formulas.{permutes_apart}
use Rattle.permuting.specs.Bitmap.{marks, Stands, Marked}
use Rattle.permuting.proofs.Bitmap.{length_marks, marked_length}
use Rattle.permuting.proofs.Cycles.{Seen, clash, seen_now, seen_still, seen_how}
use Rattle.explaining.specs.Reasons.{FirstCollision}
use Rattle.explaining.specs.Searches.{Earliest}

-- no two positions below y share an address
abbrev ApartBelow : Formula → ℕ → Type 0
ApartBelow φ y = (i j : ℕ) → i < j → j < y → φ.map i ≢ φ.map j

-- ---- what a first collision says

module _ (φ : Formula) {y x address : ℕ} (c : FirstCollision φ y x address) where
  pub collision_fails : ¬ Permutes φ
  collision_fails permutes =
      let same : x ≡ y = permutes x y (omega (arith, c.earlier, c.within)) c.within (c.there ∙ sym c.here) in
      omega (arith, c.earlier)

  -- no second one fits
  pub collision_one : {y' x' address' : ℕ} → FirstCollision φ y' x' address' → (y ≡ y') × (x ≡ x') × (address ≡ address')
  collision_one {y'} {x'} {address'} d = (same_y, same_x, same_address)
    where
      same_y : y ≡ y'
      same_y = go (dec_lt y y') (dec_lt y' y)
        where
          go : Dec (y < y') → Dec (y' < y) → y ≡ y'
          go (yes l) r = absurd (d.smallest x y c.earlier l (c.there ∙ sym c.here))
          go (no l) (yes m) = absurd (c.smallest x' y' d.earlier m (d.there ∙ sym d.here))
          go (no l) (no m) = omega arith

      same_address : address ≡ address'
      same_address = sym c.here ∙ ap φ.map same_y ∙ d.here

      -- two earlier ones would collide before
      same_x : x ≡ x'
      same_x = go (dec_lt x x') (dec_lt x' x)
        where
          shared : φ.map x ≡ φ.map x'
          shared = c.there ∙ same_address ∙ sym d.there

          go : Dec (x < x') → Dec (x' < x) → x ≡ x'
          go (yes l) r = absurd (c.smallest x x' l (omega (arith, d.earlier, same_y)) shared)
          go (no l) (yes m) = absurd (c.smallest x' x m c.earlier (sym shared))
          go (no l) (no m) = omega arith

-- it depends on the length and the addresses alone
pub collision_as : (φ ψ : Formula) {y x address : ℕ} → φ.length ≡ ψ.length → ((i : ℕ) → i < φ.length → φ.map i ≡ ψ.map i)
    → FirstCollision φ y x address → FirstCollision ψ y x address
collision_as φ ψ {y} {x} size same c =
    record {
      within = omega (arith, c.within);
      earlier = c.earlier;
      here = sym (same y c.within) ∙ c.here;
      there = sym (same x (omega (arith, c.earlier, c.within))) ∙ c.there;
      smallest = λ i j l m e. c.smallest i j l m (same i (omega (arith, c.within)) ∙ e ∙ sym (same j (omega (arith, c.within))));
    }

-- ---- there is one, unless the formula permutes

-- an earlier position has the address of y
abbrev Again : Formula → ℕ → Type 0
Again φ y = (x : ℕ) × (x < y) × (φ.map x ≡ φ.map y)

again : (φ : Formula) (y : ℕ) → Dec (Again φ y)
again φ y = ⊎_elim (λ x. yes (x.at, x.within, x.holds)) (λ none. no (λ w. none w.0 w.1 w.2)) (first_or_none (λ x. φ.map x ≡ φ.map y) (λ x. ℕ_discrete (φ.map x) (φ.map y)) y)

abbrev pub Collision : Formula → Type 0
Collision φ = (y : ℕ) × (x : ℕ) × (address : ℕ) × FirstCollision φ y x address

pub collision_or_permutes : (φ : Formula) → Collision φ ⊎ Permutes φ
collision_or_permutes φ =
    ⊎_elim (λ y. inl (collision y)) (λ none. inr (permutes_apart φ (λ i j l m e. none j m (i, l, e)))) (first_or_none (Again φ) (again φ) φ.length)
  where
    collision : FirstBelow (Again φ) φ.length → Collision φ
    collision y =
        let (x, l, e) = y.holds in
        (y.at, x, φ.map y.at, record { within = y.within; earlier = l; here = refl; there = e; smallest = λ i j l m e. y.before j m (i, l, e) })

-- ---- the search

-- come to y with the addresses before it marked, and no other
pub record Searching (φ : Formula) (s : List ℕ) (y : ℕ) : Type 0 where
  pub apart : ApartBelow φ y
  pub marked : (i : ℕ) → i < y → Seen (marks φ.length s) (φ.map i)
  pub only : (a : ℕ) → Seen (marks φ.length s) a → (i : ℕ) × (i < y) × (φ.map i ≡ a)
  pub room : φ.length ≤ 8 * length s

module _ (φ : Formula) {s : List ℕ} {y : ℕ} (g : Searching φ s y) (within : y < φ.length) {a : ℕ} (here : a ≡ φ.map y) where
  module _ (small : a < φ.length) where
    -- the address is marked: the first position that has it makes the pair
    pub searching_found : {x : ℕ} {answer : Bool} → Stands answer a s → answer ≡ true → Earliest φ a x → FirstCollision φ y x a
    searching_found {x} stands said e =
        let (i, l, w) = g.only a (stands φ.length small ∙ said) in
        record { within = within; earlier = by_cases (dec_lt i x) (λ m. absurd (e.first i m w)) (λ m. omega arith); here = sym here; there = e.has; smallest = g.apart }

    -- it is not: the search goes on
    pub searching_step : {s' : List ℕ} {answer : Bool} → Stands answer a s → answer ≡ false → Marked a s s' → Searching φ s' (y + 1)
    searching_step {s'} stands said m =
        record {
          apart = apart;
          marked = λ i l. by_cases (ℕ_discrete i y) (λ e. later (φ.map i) (ap φ.map e ∙ sym here)) (λ ne. still i (g.marked i (omega arith)));
          only = λ b seen. ⊎_elim (λ e. (y, omega arith, sym here ∙ sym e)) (λ old. let (i, l, w) = g.only b old in (i, omega arith, w)) (how b seen);
          room = omega (arith, g.room, marked_length m);
        }
      where
        inside : a < length (marks φ.length s)
        inside = rw length_marks small

        later : (b : ℕ) → b ≡ a → Seen (marks φ.length s') b
        later b e = rw e (rw (m.marks φ.length) (seen_now (marks φ.length s) a inside))

        still : (i : ℕ) → Seen (marks φ.length s) (φ.map i) → Seen (marks φ.length s') (φ.map i)
        still i w = rw (m.marks φ.length) (seen_still (marks φ.length s) a inside (φ.map i) w)

        how : (b : ℕ) → Seen (marks φ.length s') b → (b ≡ a) ⊎ Seen (marks φ.length s) b
        how b w = seen_how (marks φ.length s) a inside b (rw (m.marks φ.length) at w)

        apart : ApartBelow φ (y + 1)
        apart i j l n e = by_cases (ℕ_discrete j y) last (λ ne. g.apart i j l (omega arith) e)
          where
            last : j ≡ y → ⊥
            last w =
                clash (subst (λ (b : ℕ). Seen (marks φ.length s) b) (e ∙ ap φ.map w ∙ sym here) (g.marked i (omega arith)))
                (stands φ.length small ∙ said)

-- ---- the first position that has an address

-- none before x has it
pub record Rising (φ : Formula) (address x : ℕ) : Type 0 where
  pub within : x < φ.length
  pub before : (j : ℕ) → j < x → φ.map j ≢ address
