-- To be believed: a block after it was moved by a map, and the scratch.
use Rattle.std.specs.Prelude.{List, ℕ, ◌+◌, ◌/◌}
use Rattle.permuting.specs.Permutations.{Interleaved, Deinterleaved}
use Rattle.permuting.specs.Scratch.{Cleared}

pub data Direction : Type 0 where
  interleave : Direction
  deinterleave : Direction

abbrev pub Permuted : Direction → {A : Type 0} → A → (ℕ → ℕ) → List A → List A → Type 0
Permuted interleave d π before after = Interleaved d π before after
Permuted deinterleave d π before after = Deinterleaved d π before after

-- The bytes that hold a bit for each of k symbols: k/8, rounded up.
abbrev pub marks_of : ℕ → ℕ
marks_of k = (k + 7) / 8

-- A block of k symbols was moved by the map π, and the scratch holds zeros where the marks were.
pub record MovedBlock (w : Direction) (k : ℕ) (π : ℕ → ℕ) {A : Type 0} (d : A) (before after : List A) (before_scratch after_scratch : List ℕ) : Type 0 where
  pub block : Permuted w d π before after
  pub scratch : Cleared (marks_of k) before_scratch after_scratch
