-- Serves inside: what the search for a collision asks and finds.
use Rattle.std.specs.Prelude.{◌≡◌, ◌≢◌, false, List, [], ℕ, ◌*◌, ◌≤◌, ◌<◌, length, get_or}
use Rattle.permuting.specs.Formulas.{Formula, Permutes}
use Rattle.permuting.specs.Bitmap.{marks}
use Rattle.maps.specs.declared.Map.{Map}
use Rattle.maps.specs.Maps.{to, Sound}

-- a map as a formula: only its length and where it leads count
abbrev pub along : Map → Formula
along m = record { length = m.k; coefficients = []; map = to m }

-- bytes with a bit for each of k addresses, and no mark
pub record Unmarked (k : ℕ) (s : List ℕ) : Type 0 where
  pub room : k ≤ 8 * length s
  pub none : (a : ℕ) → get_or (marks k s) a false ≡ false

-- a map that takes two positions to one, and such bytes
pub record Searchable (m : Map) (s : List ℕ) : Type 0 where
  pub sound : Sound m
  pub collides : ¬ Permutes (along m)
  pub bytes : Unmarked m.k s

-- some position has the address
pub record Met (φ : Formula) (address : ℕ) : Type 0 where
  pub at : ℕ
  pub within : at < φ.length
  pub has : φ.map at ≡ address

-- x is the first that has it
pub record Earliest (φ : Formula) (address x : ℕ) : Type 0 where
  pub within : x < φ.length
  pub has : φ.map x ≡ address
  pub first : (j : ℕ) → j < x → φ.map j ≢ address
