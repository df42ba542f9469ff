-- What stands where while a block is permuted along the cycles of a map π, in either direction, over any kind of element.
use mathlib.Core.Path.{◌≡◌, refl, sym, ap, ◌∙◌}
use mathlib.Core.Logic.{◌≢◌, ⊎_elim}
use mathlib.Core.List.{List}
use mathlib.Core.Bool.{Bool, true}
use Prim.Native.Nat.{ℕ, ◌<◌}
use native.Mathlib.Omega.{arith}
use lib.ListN.{length, get_or, set, length-set}
use lib.Seq.{get_or-set_same, get_or-set_other}
use Rattle.permuting.specs.Permutations.{Permutation}
use Rattle.permuting.specs.Blocks.{Direction, interleave, deinterleave, Permuted}
use Rattle.permuting.proofs.Cycles.{Seen, Unseen, clash, seen_how, unseen_other, unseen_before, OnCycle, in_marks, next_unseen, next_other}

-- place `to` i comes to hold what stood at `from` i
abbrev pub to : Direction → (ℕ → ℕ) → ℕ → ℕ
to interleave π i = i
to deinterleave π i = π i

abbrev pub from : Direction → (ℕ → ℕ) → ℕ → ℕ
from interleave π i = π i
from deinterleave π i = i

module _ {k : ℕ} {π : ℕ → ℕ} (perm : Permutation k π) where
  to_within : (w : Direction) (i : ℕ) → i < k → to w π i < k
  to_within interleave i h = h
  to_within deinterleave i h = perm.within i h

  to_apart : (w : Direction) (i j : ℕ) → i < k → j < k → to w π i ≡ to w π j → i ≡ j
  to_apart interleave i j a b e = e
  to_apart deinterleave i j a b e = perm.apart i j a b e

to_near : (w : Direction) (π : ℕ → ℕ) (i j : ℕ) → j ≢ i → j ≢ π i → j ≢ to w π i
to_near interleave π i j a b = a
to_near deinterleave π i j a b = b

-- what is seen is done, and what is not seen is as it was, but for one place, `hole`, of which nothing is said; k is none
pub record Moved (w : Direction) {A : Type 0} (d : A) (k : ℕ) (π : ℕ → ℕ) (old xs : List A) (ms : List Bool) (hole : ℕ) : Type 0 where
  pub old_size : length old ≡ k
  pub size : length xs ≡ k
  pub done : (j : ℕ) → j < k → Seen ms j → get_or xs (to w π j) d ≡ get_or old (from w π j) d
  pub left : (j : ℕ) → j < k → j ≢ hole → Unseen ms j → get_or xs j d ≡ get_or old j d

module _ {w : Direction} {A : Type 0} {d : A} {k : ℕ} {π : ℕ → ℕ} {old : List A} where
  pub moved_begin : {ms : List Bool} → length old ≡ k → ((j : ℕ) → Unseen ms j) → Moved w d k π old old ms k
  moved_begin l none = record { old_size = l; size = l; done = λ j b m. clash m (none j); left = λ j b n m. refl }

  pub moved_open : {xs : List A} {ms : List Bool} (i : ℕ) → Moved w d k π old xs ms k → Moved w d k π old xs ms i
  moved_open i m = record { old_size = m.old_size; size = m.size; done = m.done; left = λ j b n u. m.left j b (λ e. absurd (omega arith)) u }

  -- a hole that is seen is none
  pub moved_close : {xs : List A} {ms : List Bool} {hole : ℕ} → Moved w d k π old xs ms hole → Seen ms hole → Moved w d k π old xs ms k
  moved_close {xs} {ms} {hole} m s = record {
    old_size = m.old_size;
    size = m.size;
    done = m.done;
    left = λ j b n u. m.left j b (λ e. clash s (rw e at u)) u;
  }

  module _ (perm : Permutation k π) {xs : List A} {ms : List Bool} {start i : ℕ} (c : OnCycle k π ms start i) (m : Moved w d k π old xs ms i) where
    -- the symbol at the next place is still the old one
    pub next_unmoved : π i ≢ start → get_or xs (π i) d ≡ get_or old (π i) d
    next_unmoved ne = m.left (π i) (perm.within i c.i_lt) (next_other perm c ne) (next_unseen perm c ne)

    -- the right symbol is stored, and i is marked: where i goes is the hole now
    pub moved_store : (v : A) → v ≡ get_or old (from w π i) d → Moved w d k π old (set xs (to w π i) v) (set ms i true) (π i)
    moved_store v e = record {
      old_size = m.old_size;
      size = length-set xs (to w π i) v ∙ m.size;
      done = λ j b s. ⊎_elim (λ q. done_here j q) (λ s'. done_there j b s') (seen_how ms i l j s);
      left = λ j b n u.
          get_or-set_other xs (to w π i) j v d (to_near w π i j (unseen_other ms i l j u) n)
          ∙ m.left j b (unseen_other ms i l j u) (unseen_before ms i l j u);
    }
      where
        l : i < length ms
        l = in_marks perm c

        done_here : (j : ℕ) → j ≡ i → get_or (set xs (to w π i) v) (to w π j) d ≡ get_or old (from w π j) d
        done_here j q =
            ap (λ (x : ℕ). get_or (set xs (to w π i) v) (to w π x) d) q
            ∙ get_or-set_same xs (to w π i) v d (rw m.size (to_within perm w i c.i_lt)) ∙ e
            ∙ ap (λ (x : ℕ). get_or old (from w π x) d) (sym q)

        done_there : (j : ℕ) → j < k → Seen ms j → get_or (set xs (to w π i) v) (to w π j) d ≡ get_or old (from w π j) d
        done_there j b s =
            get_or-set_other xs (to w π i) (to w π j) v d (λ q. let z = to_apart perm w j i b c.i_lt q in clash (rw z at s) c.unseen)
            ∙ m.done j b s

  done_all : {xs : List A} {ms : List Bool} {hole : ℕ} → Moved w d k π old xs ms hole → ((j : ℕ) → j < k → Seen ms j) → (j : ℕ)
      → j < length old → get_or xs (to w π j) d ≡ get_or old (from w π j) d
  done_all m all j b = let h = rw m.old_size at b in m.done j h (all j h)

-- where all is seen, all is done
pub moved_end : (w : Direction) {A : Type 0} {d : A} {k : ℕ} {π : ℕ → ℕ} {old xs : List A} {ms : List Bool} {hole : ℕ}
    → Moved w d k π old xs ms hole → ((j : ℕ) → j < k → Seen ms j) → Permuted w d π old xs
moved_end interleave m all = record { size = m.size ∙ sym m.old_size; holds = done_all m all }
moved_end deinterleave m all = record { size = m.size ∙ sym m.old_size; holds = done_all m all }
