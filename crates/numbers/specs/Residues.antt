-- To be believed: a map of numbers, looked at modulo m.
use Rattle.std.specs.Prelude.{◌≡◌, ℕ, ◌%◌, ◌<◌}
use Rattle.std.specs.Int.{◌∣◌}

-- For every divisor m of n it takes positions below n that are congruent modulo m to values that are, as each polynomial does.
abbrev pub RespectsDivisors : (ℕ → ℕ) → ℕ → Type 0
RespectsDivisors φ n = (m : ℕ) → m ∣ n → (x y : ℕ) → x < n → y < n → x % m ≡ y % m → φ x % m ≡ φ y % m

-- It permutes modulo m: no two positions below m have one value modulo m.
abbrev pub PermutesModulo : (ℕ → ℕ) → ℕ → Type 0
PermutesModulo φ m = (x y : ℕ) → x < m → y < m → φ x % m ≡ φ y % m → x ≡ y
