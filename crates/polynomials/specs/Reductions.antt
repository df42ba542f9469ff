-- Serves inside: a polynomial brought inside the limits, and where it ends.
use Rattle.std.specs.Prelude.{◌≡◌, ◌≢◌, List, ℕ, ◌+◌, ◌≤◌, ◌<◌, length, get_or, ℤ, pos}
use Rattle.polynomials.specs.Polynomials.{value, coefficient, Below, Congruent}
use Rattle.polynomials.specs.Bounds.{Limit, Within}

-- The limits at the places below n, one after the other.
abbrev pub Limits : ℕ → ℕ → List ℕ → Type 0
Limits K n ms = (k : ℕ) → k < n → Limit K k (get_or ms k 0)

-- Nothing stands past the place top.
abbrev pub Ends : ℕ → List ℕ → Type 0
Ends top p = (k : ℕ) → top < k → get_or p k 0 ≡ 0

-- No place is above b.
abbrev pub AtMost : ℕ → List ℕ → Type 0
AtMost b p = (k : ℕ) → get_or p k 0 ≤ b

-- Fourteen places that can be brought inside the limits in 32 bits: K is from 2 to 8,192, the constant is below K, no place is above 2 to the
-- 31st, and nothing stands past top.
pub record Reducible (K top : ℕ) (p : List ℕ) : Type 0 where
  pub low : 1 < K
  pub high : K ≤ 8192
  pub inner : top ≤ 13
  pub constant : get_or p 0 0 < K
  pub at_most : AtMost 2147483648 p
  pub ends : Ends top p
  pub places : length p ≡ 14

-- p and q take the same values modulo K at the K positions.
abbrev pub Agree : ℕ → List ℤ → List ℤ → Type 0
Agree K p q = (y : ℕ) → y < K → Congruent K (value p (pos y)) (value q (pos y))

-- q is p brought inside the limits: it takes the same values modulo K, and gets no constant where p has none.
pub record Reduced (K : ℕ) (p q : List ℤ) : Type 0 where
  pub within : Within K q
  pub same : Agree K p q
  pub free : coefficient p 0 ≡ pos 0 → coefficient q 0 ≡ pos 0

-- D is the highest place of p that is not 0; it is 0 if there is none.
pub record Degree (p : List ℤ) (D : ℕ) : Type 0 where
  pub top : 0 < D → coefficient p D ≢ pos 0
  pub past : Below (D + 1) p
