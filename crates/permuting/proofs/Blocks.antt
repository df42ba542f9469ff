-- Moved blocks: one content fits, the opposite direction undoes, every count stays, and a map that goes the same way moves alike.
use mathlib.Core.Path.{◌≡◌, sym, ap, ◌∙◌}
use mathlib.Core.Bool.{Bool}
use mathlib.Core.List.{List}
use Prim.Native.Nat.{ℕ, ◌<◌}
use native.Mathlib.Omega.{arith}
use lib.ListN.{length, get_or}
use Rattle.permuting.specs.Permutations.{Permutation, count}
use Rattle.permuting.specs.Blocks.{Direction, interleave, deinterleave, Permuted, MovedBlock}
use Rattle.permuting.proofs.Permutations.{interleaved_count, interleaved_one, deinterleaved_one, interleave_then_deinterleave, deinterleave_then_interleave, deinterleaved_count}
use Rattle.permuting.proofs.Scratch.{cleared_one}

abbrev pub opposite : Direction → Direction
opposite interleave = deinterleave
opposite deinterleave = interleave

pub moved_as : {w : Direction} {A : Type 0} {d : A} {k : ℕ} {π ρ : ℕ → ℕ} {a b : List A} {s s' : List ℕ} → ((i : ℕ) → i < k → π i ≡ ρ i)
    → length a ≡ k → MovedBlock w k π d a b s s' → MovedBlock w k ρ d a b s s'
moved_as {w} {A} {d} {k} {π} {ρ} {a} {b} same size m = record { block = alike w m.block; scratch = m.scratch }
  where
    alike : (w : Direction) → Permuted w d π a b → Permuted w d ρ a b
    alike interleave m = record { size = m.size; holds = λ i h. m.holds i h ∙ ap (λ (j : ℕ). get_or a j d) (same i (omega arith)) }
    alike deinterleave m = record { size = m.size; holds = λ i h. ap (λ (j : ℕ). get_or b j d) (sym (same i (omega arith))) ∙ m.holds i h }

module _ {w : Direction} {A : Type 0} {d : A} {k : ℕ} {π : ℕ → ℕ} {a b : List A} {s s₁ : List ℕ} (m : MovedBlock w k π d a b s s₁) where
  pub moved_size : length b ≡ length a
  moved_size = size w m.block
    where
      size : (w : Direction) → Permuted w d π a b → length b ≡ length a
      size interleave m = m.size
      size deinterleave m = m.size

  module _ (perm : Permutation k π) (size : length a ≡ k) where
    pub moved_one : {b' : List A} {s₂ : List ℕ} → MovedBlock w k π d a b' s s₂ → (b ≡ b') × (s₁ ≡ s₂)
    moved_one {b'} m' = (one w m.block m'.block, cleared_one m.scratch m'.scratch)
      where
        one : (w : Direction) → Permuted w d π a b → Permuted w d π a b' → b ≡ b'
        one interleave p q = interleaved_one p q
        one deinterleave p q = deinterleaved_one perm size p q

    pub moved_back : {c : List A} {s₂ s₃ : List ℕ} → MovedBlock (opposite w) k π d b c s₂ s₃ → c ≡ a
    moved_back {c} m' = back w m.block m'.block
      where
        back : (w : Direction) → Permuted w d π a b → Permuted (opposite w) d π b c → c ≡ a
        back interleave p q = interleave_then_deinterleave perm size p q
        back deinterleave p q = deinterleave_then_interleave p q

    pub moved_count : (p : A → Bool) → count p b ≡ count p a
    moved_count p = counts w m.block
      where
        counts : (w : Direction) → Permuted w d π a b → count p b ≡ count p a
        counts interleave m = interleaved_count perm size m p
        counts deinterleave m = deinterleaved_count perm size m p
