-- What a mover's proof calls, one law to a turn of its code: a block is permuted in place along the cycles of π, in either direction, with
-- the marks in lent bytes.
use mathlib.Core.Path.{◌≡◌, refl, sym, ap, ◌∙◌}
use mathlib.Core.Logic.{◌≢◌}
use mathlib.Core.List.{List}
use mathlib.Core.Bool.{not}
use Prim.Native.Nat.{ℕ, ◌+◌, ◌*◌, ◌/◌, ◌≤◌, ◌<◌}
use native.Mathlib.Omega.{arith}
use lib.ListN.{length, get_or, set}
use Rattle.permuting.specs.Permutations.{Permutation, count}
use Rattle.permuting.specs.Blocks.{Direction, interleave, deinterleave, Permuted}
use Rattle.permuting.specs.Scratch.{Cleared}
use Rattle.permuting.specs.Bitmap.{marks, Kept, Marked, Followed, FirstFree}
use Rattle.permuting.proofs.Bitmap.{length_marks, kept_none, kept_then, marked_length}
use Rattle.permuting.proofs.Scratch.{cleared_none_marked}
use Rattle.permuting.proofs.Cycles.{Seen, Unseen, fewer_unseen, OffCycle, OnCycle, cycles_begin, cycles_skip, cycle_open, cycle_step, cycle_close, in_marks, start_seen}
use Rattle.permuting.proofs.Symbols.{to, from, Moved, moved_begin, moved_open, moved_close, moved_store, next_unmoved, moved_end}

-- the place whose old symbol is held in hand on the cycle of start, at i
abbrev pub held_from : Direction → ℕ → ℕ → ℕ
held_from interleave start i = start
held_from deinterleave start i = i

module _ (w : Direction) {A : Type 0} (d : A) (k : ℕ) (π : ℕ → ℕ) where
  -- between two cycles, of which the next begins at start: the block is xs and the scratch, which was cleared to `clean`, is s
  pub record Between (old : List A) (clean : List ℕ) (xs : List A) (s : List ℕ) (start : ℕ) : Type 0 where
    pub perm : Permutation k π
    pub cycles : OffCycle k π (marks k s) start
    pub block : Moved w d k π old xs (marks k s) k
    pub start_unseen : start < k → Unseen (marks k s) start
    pub room : k ≤ 8 * length s
    pub kept : Kept ((k + 7) / 8) clean s

  -- on the cycle of start, come to i, with a symbol in hand
  pub record Along (old : List A) (clean : List ℕ) (xs : List A) (s : List ℕ) (start i : ℕ) (held : A) : Type 0 where
    pub perm : Permutation k π
    pub cycles : OnCycle k π (marks k s) start i
    pub block : Moved w d k π old xs (marks k s) i
    pub held_is : held ≡ get_or old (held_from w start i) d
    pub room : k ≤ 8 * length s
    pub kept : Kept ((k + 7) / 8) clean s

  -- the same as a loop's invariant can say it, which knows the block xs₀ and the scratch s₀ where the cycle was entered, and not the old block
  pub record Cycle (xs₀ : List A) (s₀ : List ℕ) (start : ℕ) (xs : List A) (s : List ℕ) (i : ℕ) (held : A) : Type 0 where
    pub start_lt : start < k
    pub i_lt : i < k
    pub next_lt : π i < k
    pub size : length xs ≡ k
    pub room : k ≤ 8 * length s
    pub along : (old : List A) (clean : List ℕ) → Between old clean xs₀ s₀ start → Along old clean xs s start i held

-- what falls as a cycle is walked: how many places are not marked
abbrev pub unseen : ℕ → List ℕ → ℕ
unseen k s = count not (marks k s)

held_first : (w : Direction) (i : ℕ) → held_from w i i ≡ i
held_first interleave i = refl
held_first deinterleave i = refl

module _ {w : Direction} {A : Type 0} {d : A} {k : ℕ} {π : ℕ → ℕ} {old : List A} where
  -- places that are marked are passed over
  between_next : {clean s : List ℕ} {xs : List A} {start r : ℕ} → Permutation k π → OffCycle k π (marks k s) start
      → Moved w d k π old xs (marks k s) k → FirstFree k start r s → k ≤ 8 * length s → Kept ((k + 7) / 8) clean s
      → Between w d k π old clean xs s r
  between_next {clean} {s} {xs} {start} {r} perm c m f room kept = record {
    perm = perm;
    cycles = cycles_skip r c f.passed;
    block = m;
    start_unseen = f.free;
    room = room;
    kept = kept;
  }

  -- the first clear is done, and the first start is found
  pub between_begin : {s₀ s : List ℕ} {start : ℕ} → Permutation k π → length old ≡ k → k ≤ 8 * length s → Cleared ((k + 7) / 8) s₀ s
      → FirstFree k 0 start s → Between w d k π old s old s start
  between_begin {s₀} {s} {start} perm l room c f =
      let none = cleared_none_marked k (omega arith) c in
      between_next perm (cycles_begin (length_marks k s) none) (moved_begin l none) f room (kept_none ((k + 7) / 8) s)

  -- no start is left
  pub between_end : {clean s : List ℕ} {xs : List A} {start : ℕ} → Between w d k π old clean xs s start → k ≤ start → Permuted w d π old xs
  between_end b h = moved_end w b.block (λ j l. b.cycles.below j (omega arith))

  enter : {clean s : List ℕ} {xs : List A} {start : ℕ} {held : A} → Between w d k π old clean xs s start → start < k → held ≡ get_or xs start d
      → Along w d k π old clean xs s start start held
  enter {clean} {s} {xs} {start} b h e = record {
    perm = b.perm;
    cycles = cycle_open b.cycles h (b.start_unseen h);
    block = moved_open start b.block;
    held_is = rw (held_first w start) (e ∙ b.block.left start h (λ q. absurd (omega arith)) (b.start_unseen h));
    room = b.room;
    kept = b.kept;
  }

  module _ {clean s s' : List ℕ} {xs : List A} {start i : ℕ} {held : A} (a : Along w d k π old clean xs s start i held) (m : Marked i s s') where
    still_kept : Kept ((k + 7) / 8) clean s'
    still_kept = kept_then a.kept (m.kept ((k + 7) / 8) (omega (arith, a.cycles.i_lt)))

    still_room : k ≤ 8 * length s'
    still_room = omega (arith, a.room, marked_length m)

    stored : (v : A) → v ≡ get_or old (from w π i) d → Moved w d k π old (set xs (to w π i) v) (marks k s') (π i)
    stored v e = rw (m.marks k) (moved_store a.perm a.cycles a.block v e)

    -- the right symbol is stored, and the walk goes on
    on : (v : A) {held' : A} → v ≡ get_or old (from w π i) d → held' ≡ get_or old (held_from w start (π i)) d → π i ≢ start
        → Along w d k π old clean (set xs (to w π i) v) s' start (π i) held'
    on v e h ne = record {
      perm = a.perm;
      cycles = rw (m.marks k) (cycle_step a.perm a.cycles ne);
      block = stored v e;
      held_is = h;
      room = still_room;
      kept = still_kept;
    }

    -- the right symbol is stored, the walk is back at its start, and the next start is found
    back : (v : A) {r : ℕ} → v ≡ get_or old (from w π i) d → π i ≡ start → FirstFree k (start + 1) r s'
        → Between w d k π old clean (set xs (to w π i) v) s' r
    back v e q f =
        let seen : Seen (marks k s') (π i) = rw (m.marks k, q) (start_seen a.perm a.cycles) in
        between_next a.perm (rw (m.marks k) (cycle_close a.perm a.cycles q)) (moved_close (stored v e) seen) f still_room still_kept

  -- the symbol at the next place is still the old one
  next_old : {clean s s' : List ℕ} {xs : List A} {start i next : ℕ} {held v : A} → Along w d k π old clean xs s start i held
      → Followed π i next s s' → v ≡ get_or xs next d → next ≢ start → v ≡ get_or old (π i) d
  next_old {xs = xs} a t e ne =
      e ∙ ap (λ (j : ℕ). get_or xs j d) t.goes ∙ next_unmoved a.perm a.cycles a.block (λ q. ne (t.goes ∙ q))

module _ {w : Direction} {A : Type 0} {d : A} {k : ℕ} {π : ℕ → ℕ} {old : List A} {clean s₀ : List ℕ} {xs₀ : List A} {start : ℕ}
    (b : Between w d k π old clean xs₀ s₀ start) where
  cycle : {s : List ℕ} {xs : List A} {i : ℕ} {held : A}
      → ((old : List A) (clean : List ℕ) → Between w d k π old clean xs₀ s₀ start → Along w d k π old clean xs s start i held)
      → Cycle w d k π xs₀ s₀ start xs s i held
  cycle f =
      let a = f old clean b in
      record {
        start_lt = a.cycles.start_lt;
        i_lt = a.cycles.i_lt;
        next_lt = a.perm.within _ a.cycles.i_lt;
        size = a.block.size;
        room = a.room;
        along = f;
      }

  -- the walk ends, since there is a mark more
  pub cycle_fewer : {s s' : List ℕ} {xs : List A} {i : ℕ} {held : A} → Cycle w d k π xs₀ s₀ start xs s i held → Marked i s s'
      → unseen k s' < unseen k s
  cycle_fewer {s} {i = i} c m =
      let a = c.along old clean b in
      rw (m.marks k) (fewer_unseen (marks k s) i (in_marks a.perm a.cycles) a.cycles.unseen)

-- the turns of an interleaving walk: place i takes the symbol of the next place, and the last place the first symbol
module _ {A : Type 0} {d : A} {k : ℕ} {π : ℕ → ℕ} {old : List A} {clean s₀ s s' : List ℕ} {xs₀ xs : List A} {start i next : ℕ} {first : A}
    (b : Between interleave d k π old clean xs₀ s₀ start) (c : Cycle interleave d k π xs₀ s₀ start xs s i first) (t : Followed π i next s s') where
  pub interleave_on : {v : A} → v ≡ get_or xs next d → next ≢ start → Cycle interleave d k π xs₀ s₀ start (set xs i v) s' next first
  interleave_on {v} e ne =
      rw t.goes (cycle b (λ old clean b'.
      let a = c.along old clean b' in on a t.marked v (next_old a t e ne) a.held_is (λ q. ne (t.goes ∙ q))))

  pub interleave_back : {r : ℕ} → next ≡ start → FirstFree k (start + 1) r s' → Between interleave d k π old clean (set xs i first) s' r
  interleave_back e f =
      let a = c.along old clean b in
      let q : π i ≡ start = sym t.goes ∙ e in
      back a t.marked first (a.held_is ∙ ap (λ (j : ℕ). get_or old j d) (sym q)) q f

-- the turns of a deinterleaving walk: the next place takes the symbol in hand, and gives its own into the hand
module _ {A : Type 0} {d : A} {k : ℕ} {π : ℕ → ℕ} {old : List A} {clean s₀ s s' : List ℕ} {xs₀ xs : List A} {start i next : ℕ} {carried : A}
    (b : Between deinterleave d k π old clean xs₀ s₀ start) (c : Cycle deinterleave d k π xs₀ s₀ start xs s i carried) (t : Followed π i next s s') where
  pub deinterleave_on : {v : A} → v ≡ get_or xs next d → next ≢ start → Cycle deinterleave d k π xs₀ s₀ start (set xs next carried) s' next v
  deinterleave_on e ne =
      rw t.goes (cycle b (λ old clean b'.
      let a = c.along old clean b' in on a t.marked carried a.held_is (next_old a t e ne) (λ q. ne (t.goes ∙ q))))

  pub deinterleave_back : {r : ℕ} → next ≡ start → FirstFree k (start + 1) r s' → Between deinterleave d k π old clean (set xs next carried) s' r
  deinterleave_back e f =
      let a = c.along old clean b in rw t.goes (back a t.marked carried a.held_is (sym t.goes ∙ e) f)
