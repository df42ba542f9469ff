-- What a mover keeps on its way. The laws of a walk name a d, which `get_or` answers past a block's end. A mover of any kind of symbol has none to
-- name, and keeps them at each.
use mathlib.Core.Path.{◌≡◌, sym}
use mathlib.Core.Logic.{◌≢◌}
use mathlib.Core.List.{List}
use Prim.Native.Nat.{ℕ, ◌+◌, ◌*◌, ◌≤◌, ◌<◌}
use native.Mathlib.Omega.{arith}
use lib.ListN.{length, get_or, set}
use Rattle.std.proofs.lemmas.List.{get_or_read_under}
use Rattle.permuting.specs.Permutations.{Permutation}
use Rattle.permuting.specs.Scratch.{Cleared}
use Rattle.permuting.specs.Bitmap.{Marked, Followed, FirstFree}
use Rattle.permuting.specs.Blocks.{Direction, interleave, deinterleave, marks_of, MovedBlock}
use Rattle.permuting.proofs.Scratch.{cleared_length, cleared_again}
use Rattle.permuting.proofs.Traversal.{Between, Cycle, unseen, between_begin, between_end, cycle_fewer, interleave_on, interleave_back, deinterleave_on, deinterleave_back}

module _ (w : Direction) {A : Type 0} (k : ℕ) (π : ℕ → ℕ) where
  -- between two cycles
  pub record Resting (old : List A) (clean : List ℕ) (xs : List A) (s : List ℕ) (start : ℕ) : Type 0 where
    pub room : k ≤ 8 * length s
    pub between : (d : A) → Between w d k π old clean xs s start

  -- on the cycle of start, come to i, with a symbol in hand
  pub record Walking (xs₀ : List A) (s₀ : List ℕ) (start : ℕ) (xs : List A) (s : List ℕ) (i : ℕ) (held : A) : Type 0 where
    pub i_lt : i < k
    pub next_lt : π i < k
    pub room : k ≤ 8 * length s
    pub cycle : (d : A) → Cycle w d k π xs₀ s₀ start xs s i held

module _ {w : Direction} {A : Type 0} {k : ℕ} {π : ℕ → ℕ} where
  walking : {xs₀ xs : List A} {s₀ s : List ℕ} {start i : ℕ} {held : A} → ((d : A) → Cycle w d k π xs₀ s₀ start xs s i held)
      → Walking w k π xs₀ s₀ start xs s i held
  walking {held = held} f =
      let c = f held in
      record { i_lt = c.i_lt; next_lt = c.next_lt; room = c.room; cycle = f }

  resting : {old xs : List A} {clean s : List ℕ} {start : ℕ} → A → ((d : A) → Between w d k π old clean xs s start) → Resting w k π old clean xs s start
  resting a f = record { room = (f a).room; between = f }

  pub begun : {old : List A} {s₀ s : List ℕ} {start : ℕ} → Permutation k π → length old ≡ k → marks_of k ≤ length s₀ → Cleared (marks_of k) s₀ s
      → FirstFree k 0 start s → Resting w k π old s old s start
  begun {s = s} perm l fits c f =
      let room : k ≤ 8 * length s = omega (arith, fits, cleared_length fits c) in
      record { room = room; between = λ d. between_begin perm l room c f }

  module _ {old : List A} {clean s : List ℕ} {xs : List A} {start : ℕ} (r : Resting w k π old clean xs s start) where
    pub fewer : {xs' : List A} {s' s'' : List ℕ} {i : ℕ} {held : A} → Walking w k π xs s start xs' s' i held → Marked i s' s''
        → unseen k s'' < unseen k s'
    fewer {held = held} c m = cycle_fewer (r.between held) (c.cycle held) m

    -- no start is left, and the scratch is cleared again
    pub moved : {s₀ s₁ : List ℕ} → Cleared (marks_of k) s₀ clean → k ≤ start → Cleared (marks_of k) s s₁ → (d : A) → MovedBlock w k π d old xs s₀ s₁
    moved c h c' d = let b = r.between d in record { block = between_end b h; scratch = cleared_again c b.kept c' }

    module _ {xs' : List A} {s' s'' : List ℕ} {i next : ℕ} {held : A} (c : Walking w k π xs s start xs' s' i held) (t : Followed π i next s' s'') where
      next_symbol : {v : A} → v ≡ get_or xs' next v → (d : A) → v ≡ get_or xs' next d
      next_symbol {v} e d = get_or_read_under xs' next k v d e (omega (arith, c.next_lt, t.goes)) (sym (c.cycle held).size)

-- the turns of an interleaving walk
module _ {A : Type 0} {k : ℕ} {π : ℕ → ℕ} {old : List A} {clean s₀ s s' : List ℕ} {xs₀ xs : List A} {start i next : ℕ} {first : A}
    (r : Resting interleave k π old clean xs₀ s₀ start) (c : Walking interleave k π xs₀ s₀ start xs s i first) (t : Followed π i next s s') where
  pub interleaved : {v : A} → v ≡ get_or xs next v → next ≢ start → Walking interleave k π xs₀ s₀ start (set xs i v) s' next first
  interleaved e ne = walking (λ d. interleave_on (r.between d) (c.cycle d) t (next_symbol r c t e d) ne)

  pub interleaved_round : {start' : ℕ} → next ≡ start → FirstFree k (start + 1) start' s' → Resting interleave k π old clean (set xs i first) s' start'
  interleaved_round q f = resting first (λ d. interleave_back (r.between d) (c.cycle d) t q f)

-- the turns of a deinterleaving walk
module _ {A : Type 0} {k : ℕ} {π : ℕ → ℕ} {old : List A} {clean s₀ s s' : List ℕ} {xs₀ xs : List A} {start i next : ℕ} {carried : A}
    (r : Resting deinterleave k π old clean xs₀ s₀ start) (c : Walking deinterleave k π xs₀ s₀ start xs s i carried) (t : Followed π i next s s') where
  pub deinterleaved : {v : A} → v ≡ get_or xs next v → next ≢ start → Walking deinterleave k π xs₀ s₀ start (set xs next carried) s' next v
  deinterleaved e ne = walking (λ d. deinterleave_on (r.between d) (c.cycle d) t (next_symbol r c t e d) ne)

  pub deinterleaved_round : {start' : ℕ} → next ≡ start → FirstFree k (start + 1) start' s'
      → Resting deinterleave k π old clean (set xs next carried) s' start'
  deinterleaved_round q f = resting carried (λ d. deinterleave_back (r.between d) (c.cycle d) t q f)
