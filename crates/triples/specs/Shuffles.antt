-- To be believed: what a triple means, in the words of the scope.
use Rattle.std.specs.Prelude.{cond, ℕ, ◌+◌, ◌*◌, ◌/◌, ◌%◌, ◌≤◌, ◌<◌, [], ◌∷◌, eqb}
use Rattle.permuting.specs.Formulas.{Formula, Permutes}
use Rattle.triples.specs.declared.Triple.{Triple}

-- The triple of three numbers.
abbrev pub triple : ℕ → ℕ → ℕ → Triple
triple k f1 f2 = record { k = k; f1 = f1; f2 = f2 }

-- f(x) = (f1·x + f2·x²) mod K.
abbrev pub f : Triple → ℕ → ℕ
f t x = (t.f1 * x + t.f2 * (x * x)) % t.k

-- K is from 2 to 8,192, and both coefficients are below K.
pub record InRange (t : Triple) : Type 0 where
  pub low : 2 ≤ t.k
  pub high : t.k ≤ 8192
  pub first : t.f1 < t.k
  pub second : t.f2 < t.k

-- The formula of a triple.
abbrev pub quadratic : Triple → Formula
quadratic t = record { length = t.k; coefficients = t.f1 ∷ t.f2 ∷ []; map = f t }

-- A shuffle: an accepted triple.
pub record Shuffle (t : Triple) : Type 0 where
  pub range : InRange t
  pub permutes : Permutes (quadratic t)

-- The odd form: where K and f1 are even, K/2 is added to both coefficients modulo K; in all other cases it is the pair itself.
abbrev pub odd_form : Triple → Triple
odd_form t =
    cond (eqb (t.k % 2) 0)
    (cond (eqb (t.f1 % 2) 0)
    (triple t.k ((t.f1 + t.k / 2) % t.k) ((t.f2 + t.k / 2) % t.k))
    t)
    t
