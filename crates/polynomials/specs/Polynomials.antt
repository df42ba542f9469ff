-- To be believed: polynomials with whole coefficients, as lists, the constant first.
use Rattle.std.specs.Prelude.{◌≡◌, List, [], ◌∷◌, map, ℕ, ◌≤◌, get_or, ℤ, pos, ◌+ℤ◌, ◌-ℤ◌, ◌*ℤ◌}

-- The value of p at y, by Horner's rule.
abbrev pub value : List ℤ → ℤ → ℤ
value [] y = pos 0
value (a ∷ p) y = a +ℤ y *ℤ value p y

-- What stands at the place k, before y to the k-th; 0 past the end.
abbrev pub coefficient : List ℤ → ℕ → ℤ
coefficient p k = get_or p k (pos 0)

-- Natural coefficients as whole ones.
abbrev pub wholes : List ℕ → List ℤ
wholes = map pos

-- p has no term of degree D or more.
abbrev pub Below : ℕ → List ℤ → Type 0
Below D p = (k : ℕ) → D ≤ k → coefficient p k ≡ pos 0

-- K divides the difference of x and y.
pub record Congruent (K : ℕ) (x y : ℤ) : Type 0 where
  pub times : ℤ
  pub difference : x -ℤ y ≡ times *ℤ pos K
