-- Serves inside: what a mover asks.
use Rattle.std.specs.Prelude.{◌≡◌, ℕ, ◌≤◌}
use Rattle.permuting.specs.Permutations.{Permutation}
use Rattle.permuting.specs.Blocks.{marks_of}
use Rattle.maps.specs.declared.Map.{Map}
use Rattle.maps.specs.Maps.{to, Sound}

-- a map that permutes, a block of its size, and a scratch with a bit for each symbol
pub record Ready (m : Map) (block scratch : ℕ) : Type 0 where
  pub sound : Sound m
  pub permutes : Permutation m.k (to m)
  pub block_size : block ≡ m.k
  pub scratch_size : marks_of m.k ≤ scratch
