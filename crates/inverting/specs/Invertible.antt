-- Serves inside: what the series asks of an odd form.
use Rattle.std.specs.Prelude.{ℕ, ◌^◌, ◌≤◌, ◌<◌}
use Rattle.std.specs.Int.{◌∣◌}
use Rattle.numbers.specs.Reciprocals.{Reciprocal}
use Rattle.triples.specs.declared.Triple.{Triple}

-- f has an inverse: f1 has the reciprocal r, and every prime of K divides f2. None stands in K, at most 2 to the 13th, more than
-- thirteen times, so that K divides f2 to the 13th.
pub record Invertible (t : Triple) (r : ℕ) : Type 0 where
  pub low : 1 < t.k
  pub high : t.k ≤ 8192
  pub second : t.f2 < t.k
  pub reciprocal : Reciprocal t.k t.f1 r
  pub absorbed : t.k ∣ t.f2 ^ 13
