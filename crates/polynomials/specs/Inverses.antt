-- To be believed: the polynomial that undoes a map of the K positions.
use Rattle.std.specs.Prelude.{◌≡◌, ◌≢◌, List, ◌∷◌, ℕ, ◌+◌, ◌≤◌, ◌<◌, length, get_or, ℤ, pos}
use Rattle.polynomials.specs.Polynomials.{value, coefficient, wholes, Below, Congruent}
use Rattle.polynomials.specs.Bounds.{Within}

-- g(φ(x)) is x modulo K at every position x.
abbrev pub Undoes : ℕ → (ℕ → ℕ) → List ℤ → Type 0
Undoes K φ g = (x : ℕ) → x < K → Congruent K (value g (pos (φ x))) (pos x)

-- g, of degree D and without a constant, undoes φ modulo K and keeps the limits. No polynomial of lower degree undoes φ, a
-- constant allowed, and no other one without a constant that keeps the limits does, of any degree.
pub record InversePolynomial (K : ℕ) (φ : ℕ → ℕ) (D : ℕ) (g : List ℤ) : Type 0 where
  pub low : 1 ≤ D
  pub high : D ≤ 13
  pub top : coefficient g D ≢ pos 0
  pub past : Below (D + 1) g
  pub free : coefficient g 0 ≡ pos 0
  pub undoes : Undoes K φ g
  pub within : Within K g
  pub least : (h : List ℤ) → Undoes K φ h → Below D h → ⊥
  pub only : (h : List ℤ) → coefficient h 0 ≡ pos 0 → Within K h → Undoes K φ h → (k : ℕ) → coefficient h k ≡ coefficient g k

-- The polynomial a1·y + a2·y² + …, from the list of a1, a2, …
abbrev pub from_first : List ℕ → List ℤ
from_first a = pos 0 ∷ wholes a

-- The inverse of φ as a degree and thirteen coefficient places: a1 first, and zeros past the degree.
pub record Inverted (K : ℕ) (φ : ℕ → ℕ) (D : ℕ) (a : List ℕ) : Type 0 where
  pub places : length a ≡ 13
  pub polynomial : InversePolynomial K φ D (from_first a)
  pub rest : (j : ℕ) → D ≤ j → get_or a j 0 ≡ 0
