-- Serves inside: where a stride over the addresses stands.
use Rattle.std.specs.Prelude.{◌≡◌, ℕ, ◌+◌, ◌*◌, ◌≤◌, ◌<◌}
use Rattle.numbers.specs.Congruences.{Cong}
use Rattle.triples.specs.declared.Triple.{Triple}
use Rattle.triples.specs.declared.striding.Stride.{Stride}
use Rattle.triples.specs.Shuffles.{f}

-- what f gains from x to x + 1
abbrev pub gain : Triple → ℕ → ℕ
gain t x = t.f1 + t.f2 * (2 * x + 1)

-- each number is a remainder by k
pub record Sound (s : Stride) : Type 0 where
  pub few : s.k ≤ 8192
  pub address : s.address < s.k
  pub fall : s.fall < s.k
  pub twice : s.twice < s.k

-- it stands at position x of the triple
pub record At (t : Triple) (x : ℕ) (s : Stride) : Type 0 where
  pub sound : Sound s
  pub size : s.k ≡ t.k
  pub address : s.address ≡ f t x
  pub fall : Cong t.k (s.fall + gain t x) 0
  pub twice : Cong t.k s.twice (t.f2 + t.f2)

-- from any position of any triple to the next
pub record Follows (s next : Stride) : Type 0 where
  pub sound : Sound next
  pub goes : (t : Triple) (x : ℕ) → At t x s → At t (x + 1) next
