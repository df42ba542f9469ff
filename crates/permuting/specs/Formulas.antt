-- To be believed: a formula that positions are shuffled by, of any kind.
use Rattle.std.specs.Prelude.{◌≡◌, List, ℕ, ◌<◌}

-- How many positions there are, the coefficients, and where each position goes.
pub record Formula : Type 0 where
  pub length : ℕ
  pub coefficients : List ℕ
  pub map : ℕ → ℕ

-- It permutes when no two positions share a value.
abbrev pub Permutes : Formula → Type 0
Permutes φ = (x y : ℕ) → x < φ.length → y < φ.length → φ.map x ≡ φ.map y → x ≡ y
