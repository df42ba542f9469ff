-- To be believed: why a triple in range is no shuffle.
use Rattle.std.specs.Prelude.{◌≡◌, ◌≢◌, ℕ, ◌≤◌, ◌<◌}
use Rattle.numbers.specs.PrimePowers.{FullPower}
use Rattle.permuting.specs.Formulas.{Formula, Permutes}
use Rattle.triples.specs.declared.Triple.{Triple}
use Rattle.triples.specs.Shuffles.{triple, quadratic}

-- y is the smallest position whose address an earlier position has too, x is that position, and address is the one they share.
pub record FirstCollision (φ : Formula) (y x address : ℕ) : Type 0 where
  pub within : y < φ.length
  pub earlier : x < y
  pub here : φ.map y ≡ address
  pub there : φ.map x ≡ address
  pub smallest : (i j : ℕ) → i < j → j < y → φ.map i ≢ φ.map j

-- The same quadratic, modulo m.
abbrev pub modulo : Triple → ℕ → Triple
modulo t m = triple m t.f1 t.f2

-- p is a prime of K, and the quadratic does not permute modulo the full power of p in K.
pub record FailsAt (t : Triple) (p : ℕ) : Type 0 where
  pub power : ℕ
  pub full : FullPower t.k p power
  pub fails : ¬ Permutes (quadratic (modulo t power))

-- p is the least such prime.
pub record LeastFailing (t : Triple) (p : ℕ) : Type 0 where
  pub fails : FailsAt t p
  pub least : (r : ℕ) → FailsAt t r → p ≤ r
