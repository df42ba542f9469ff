-- A list of n addresses that goes on from its start behind its places, so that no pair of places crosses an end.
use mathlib.Core.Path.{◌≡◌, refl, sym, ap, ap₂, subst, ◌∙◌}
use mathlib.Core.List.{List}
use Prim.Native.Nat.{ℕ, ◌+◌, ◌-◌, ◌%◌, ◌≤◌, ◌<◌, min}
use native.Mathlib.Nat.{mod-lt, mod-eq_of_lt, le_trans}
use native.Mathlib.Omega.{arith}
use lib.ListN.{length, set}
use Rattle.numbers.specs.Lists.{Written}
use Rattle.numbers.specs.Congruences.{Cong}
use Rattle.numbers.proofs.Lists.{written_more}
use Rattle.numbers.proofs.Congruences.{cong_same, cong_add, cong_mod, cong_eq}
use Rattle.spreading.specs.Spreads.{circular}
use Rattle.spreading.specs.Minima.{Least, gap, entry, pair, Addresses, Round}
use Rattle.spreading.proofs.Minima.{least_from}
use Rattle.spreading.proofs.Packing.{packed_within}
use Rattle.spreading.proofs.Ascending.{Searching, search_spreads}

-- it has gone on by s - 1 entries
abbrev pub GoesOn : List ℕ → ℕ → ℕ → ℕ → List ℕ → Type 0
GoesOn list n places s after = Written (λ i. entry list (i % n)) (places + s - 1) list after

module _ {list : List ℕ} {n places : ℕ} (l : Round list n places) where
  module _ {s least : ℕ} (search : Searching (entry list) n s least) where
    -- a search goes on no further than there is room
    pub on_room : {p : ℕ} {after : List ℕ} → Written (λ i. entry list (i % n)) p list after → places + s ≤ length after
    on_room g =
        let room = l.behind in
        let fits = packed_within s room.room (omega (arith, search.fits, search.top)) l.below (search_spreads (entry list) n search) room.enough in
        omega (arith, g.size, room.within)

    pub on_more : {after : List ℕ} → GoesOn list n places s after → GoesOn list n places (s + 1) (set after (places + s - 1) (entry after (places + s - 1 - n)))
    on_more {after} g =
        let end = places + s - 1 in
        let fits = l.all in
        let some = search.low in
        let again : Cong n (end - n) end = record { l = 1; r = 0; eq = omega arith } in
        let e : end + 1 ≡ places + (s + 1) - 1 = omega arith in
        subst (λ (m : ℕ). Written (λ i. entry list (i % n)) m list (set after end (entry after (end - n)))) e
        (written_more (entry after (end - n)) g (omega (arith, on_room g))
        (g.entries (end - n) (omega (arith, l.some)) ∙ ap (entry list) (cong_same again)))

    module _ {after : List ℕ} (g : GoesOn list n places (s + 1) after) where
      pub on_addresses : Addresses after n (places + s)
      on_addresses =
          record {
            few = le_trans l.all l.few;
            within = on_room g;
            below = λ i h. subst (λ (a : ℕ). a < n) (sym (g.entries i (omega arith))) (l.below (i % n) (mod-lt i (omega (arith, l.some))));
          }

      same : (y : ℕ) → y < places → pair after n s y ≡ gap (entry list) n s (y % n)
      same y h =
          let c = cong_same (cong_add (cong_mod n y) (cong_eq {x = s} refl)) in
          ap₂ (λ (a b : ℕ). circular n a b) (g.entries y (omega arith)) (g.entries (y + s) (omega arith) ∙ ap (entry list) c)

      -- the pairs of the places are those of the circle
      pub on_closest : {r least' : ℕ} → Least (pair after n s) places n r → least' ≡ min least r → Least (gap (entry list) n s) n least least'
      on_closest closest e =
          least_from closest
          (λ x h. (x, omega (arith, l.all), ap (gap (entry list) n s) (sym (mod-eq_of_lt h)) ∙ sym (same x (omega (arith, l.all)))))
          (λ y h. (y % n, mod-lt y (omega (arith, l.some)), same y h)) search.top e
