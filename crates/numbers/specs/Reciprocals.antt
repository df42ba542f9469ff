-- To be believed: the reciprocal of a number modulo another.
use Rattle.std.specs.Prelude.{◌≡◌, ℕ, ◌*◌, ◌%◌, ◌<◌}

-- r is the reciprocal of a modulo k: the number below k with r·a mod k = 1.
pub record Reciprocal (k a r : ℕ) : Type 0 where
  pub below : r < k
  pub product : r * a % k ≡ 1
