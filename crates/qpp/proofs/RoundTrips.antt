-- Moving a block: no second content fits, each direction undoes the other, and each symbol occurs as often after as before. For formulas
-- and symbols of any kind.
use mathlib.Core.Path.{◌≡◌, sym, ap, subst₂, ◌∙◌}
use mathlib.Core.List.{List, ◌++◌}
use mathlib.Core.Bool.{Bool}
use Prim.Native.Nat.{ℕ, ◌≤◌, ◌<◌}
use native.Mathlib.Decide.{ℕ_discrete}
use lib.ListN.{length}
use Rattle.permuting.specs.Formulas.{Formula}
use Rattle.permuting.specs.Permutations.{Permutation, count}
use Rattle.permuting.specs.Blocks.{Direction, marks_of, MovedBlock}
use Rattle.permuting.proofs.Blocks.{opposite, moved_size, moved_one, moved_back, moved_count}
use Rattle.permuting.proofs.Scratch.{cleared_one, cleared_length, cleared_twice}
use Rattle.refusals.specs.Refusals.{First, Answer, shuffle_tests, block_tests}
use Rattle.refusals.proofs.Tests.{splits, none_before}
use Rattle.refusals.proofs.Answers.{answer_one_when}
use Rattle.refusals.proofs.Acceptance.{accepted_if}
use Rattle.refusals.proofs.Lengths.{sizes_fit}
use Rattle.qpp.specs.Promises.{Moves}

-- what is left of a refused call
same_left : {A : Type 0} {a b b' : List A} {s s₁ s₂ : List ℕ} → (b ≡ a) × (s₁ ≡ s) → (b' ≡ a) × (s₂ ≡ s) → (b ≡ b') × (s₁ ≡ s₂)
same_left p q = (p.0 ∙ sym q.0, p.1 ∙ sym q.1)

module _ (φ : Formula) (inside : (i : ℕ) → i < φ.length → φ.map i < φ.length) where
  -- what a call that is done may count on
  record Fit (block scratch : ℕ) : Type 0 where
    permutes : Permutation φ.length φ.map
    block_size : block ≡ φ.length
    scratch_size : marks_of φ.length ≤ scratch

  fit : (block scratch : ℕ) {n : ℕ} → First (shuffle_tests φ ++ block_tests φ.length (marks_of φ.length) block scratch) n → n ≡ 0 → Fit block scratch
  fit block scratch first z =
      let own = block_tests φ.length (marks_of φ.length) block scratch in
      let sizes = sizes_fit φ.length (marks_of φ.length) block scratch (splits (shuffle_tests φ) own tt first z) z in
      record {
        permutes = record { within = inside; apart = (accepted_if φ (none_before (shuffle_tests φ) own tt first z)).permutes };
        block_size = sizes.0;
        scratch_size = sizes.1;
      }

  module _ {w : Direction} {A : Type 0} {d : A} {a b : List A} {s s₁ : List ℕ} {n : ℕ} (x : Moves w φ d a s n b s₁) where
    -- what holds of a done call, and of one that left block and scratch as they came, holds of every call
    either_way : {Both : Type 0} → (Fit (length a) (length s) → MovedBlock w φ.length φ.map d a b s s₁ → Both) → ((b ≡ a) × (s₁ ≡ s) → Both) → Both
    either_way {Both} done refused = pick (ℕ_discrete n 0)
      where
        pick : Dec (n ≡ 0) → Both
        pick (yes z) = done (fit (length a) (length s) x.first z) (x.done z)
        pick (no ne) = refused (x.refused ne)

    block_length : length b ≡ length a
    block_length = either_way (λ _ m. moved_size m) (λ p. ap length p.0)

    scratch_length : length s₁ ≡ length s
    scratch_length = either_way (λ r m. cleared_length r.scratch_size m.scratch) (λ p. ap length p.1)

    pub moves_one : {b' : List A} {s₂ : List ℕ} {m : ℕ} → Moves w φ d a s m b' s₂ → (n ≡ m) × ((b ≡ b') × (s₁ ≡ s₂))
    moves_one y =
        answer_one_when (λ first z p q. let r = fit (length a) (length s) first z in moved_one p r.permutes r.block_size q) same_left x y

    -- each symbol value occurs as often after as before: every test of a symbol is passed as often
    pub moves_count : (p : A → Bool) → count p b ≡ count p a
    moves_count p = either_way (λ r m. moved_count m r.permutes r.block_size p) (λ e. ap (λ (l : List A). count p l) e.0)

    -- a second call, on the block that the first left and a scratch as long as the first's, meets the same tests: both are done, or both refused
    after : {w' : Direction} {Both : Type 0} {c : List A} {s₂ s₃ : List ℕ} {m : ℕ}
        → (Fit (length a) (length s) → MovedBlock w φ.length φ.map d a b s s₁ → MovedBlock w' φ.length φ.map d b c s₂ s₃ → Both)
        → ((b ≡ a) × (s₁ ≡ s) → (c ≡ b) × (s₃ ≡ s₂) → Both) → length s₂ ≡ length s → Moves w' φ d b s₂ m c s₃ → (m ≡ n) × Both
    after {w'} {Both} {c} {s₂} {s₃} {m} done refused e y =
        let (same, both) =
        answer_one_when (λ first z. done (fit (length a) (length s) first z)) refused x
        (subst₂
        (λ (u v : ℕ). Answer (shuffle_tests φ) (block_tests φ.length (marks_of φ.length) u v) m (MovedBlock w' φ.length φ.map d b c s₂ s₃) ((c ≡ b) × (s₃ ≡ s₂)))
        block_length e y) in
        (sym same, both)

    -- the other direction, with any scratch as long as the first: the same number, and the first block back, refused or not
    pub moves_undone : {c : List A} {s₂ s₃ : List ℕ} {m : ℕ} → length s₂ ≡ length s → Moves (opposite w) φ d b s₂ m c s₃ → (m ≡ n) × (c ≡ a)
    moves_undone = after {w' = opposite w} (λ r m m'. moved_back m r.permutes r.block_size m') (λ p q. q.0 ∙ p.0)

    -- with the scratch that the first call left, which then stays as it is
    pub moves_restored : {c : List A} {s₂ : List ℕ} {m : ℕ} → Moves (opposite w) φ d b s₁ m c s₂ → (m ≡ n) × ((c ≡ a) × (s₂ ≡ s₁))
    moves_restored y =
        let (same, back) = moves_undone scratch_length y in
        let stays = after {w' = opposite w} (λ _ m m'. cleared_one (cleared_twice m.scratch m'.scratch) m.scratch) (λ _ q. q.1) scratch_length y in
        (same, (back, stays.1))
