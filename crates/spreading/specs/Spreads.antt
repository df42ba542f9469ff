-- To be believed: the spread of a map of positions.
use Rattle.std.specs.Prelude.{◌≢◌, ℕ, ◌+◌, ◌-◌, ◌≤◌, ◌<◌, min}

-- The distance of two numbers along the line; one of the two differences is 0.
abbrev pub line : ℕ → ℕ → ℕ
line a b = (a - b) + (b - a)

-- The distance of two numbers below n round the circle: the shorter way modulo n.
abbrev pub circular : ℕ → ℕ → ℕ → ℕ
circular n a b = min (line a b) (n - line a b)

-- Any two different positions below n that are less than s apart have addresses at least s apart.
abbrev pub Spreads : (ℕ → ℕ → ℕ) → (ℕ → ℕ) → ℕ → ℕ → Type 0
Spreads distance φ n s = (x y : ℕ) → x < n → y < n → x ≢ y → distance x y < s → s ≤ distance (φ x) (φ y)

-- s is the largest such number from 1 to n.
pub record SpreadBy (distance : ℕ → ℕ → ℕ) (φ : ℕ → ℕ) (n s : ℕ) : Type 0 where
  pub low : 1 ≤ s
  pub high : s ≤ n
  pub spreads : Spreads distance φ n s
  pub largest : (r : ℕ) → r ≤ n → Spreads distance φ n r → r ≤ s

-- The spread: position n - 1 stands next to position 0, and so do the addresses.
abbrev pub Spread : (ℕ → ℕ) → ℕ → ℕ → Type 0
Spread φ n s = SpreadBy (circular n) φ n s
