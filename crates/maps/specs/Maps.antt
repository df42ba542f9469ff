-- Serves inside: where a map leads, and which map is that of a triple.
use Rattle.std.specs.Prelude.{◌≡◌, ℕ, ◌+◌, ◌*◌, ◌/◌, ◌%◌, ◌≤◌, ◌<◌}
use Rattle.triples.specs.declared.Triple.{Triple}
use Rattle.triples.specs.Shuffles.{f}
use Rattle.maps.specs.declared.Map.{Map}

-- 2 to the 51st
abbrev pub scale : ℕ
scale = 2251799813685248

-- where the map leads from x
abbrev pub to : Map → ℕ → ℕ
to m x = (m.f1 + m.f2 * x) % scale * x % scale * m.k / scale

-- no product on the way leaves 64 bits
pub record Sound (m : Map) : Type 0 where
  pub some : 0 < m.k
  pub few : m.k ≤ 8192
  pub first : m.f1 < scale
  pub second : m.f2 < scale

-- the map leads where f does
pub record MapOf (t : Triple) (m : Map) : Type 0 where
  pub sound : Sound m
  pub size : m.k ≡ t.k
  pub places : (x : ℕ) → x < m.k → to m x ≡ f t x
