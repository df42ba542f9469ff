-- Serves inside: the rising products y(y + 1)…(y + n - 1), which have no negative coefficients.
use Rattle.std.specs.Prelude.{◌≡◌, List, [], ◌∷◌, ℕ, zero, suc, ◌+◌, ◌*◌, ◌-◌, ◌/◌, ◌%◌, ◌≤◌, ◌<◌, length, get_or}
use Rattle.numbers.specs.Lists.{Written}
use Rattle.polynomials.specs.Reductions.{AtMost}

-- The coefficients of c + (y + n)·p(y).
unfoldable pub times_linear : ℕ → ℕ → List ℕ → List ℕ
times_linear n c [] = c ∷ []
times_linear n c (a ∷ p) = (c + n * a) ∷ times_linear n a p

-- The coefficients of the n-th rising product.
unfoldable pub rising : ℕ → List ℕ
rising zero = 1 ∷ []
rising (suc n) = times_linear n 0 (rising n)

-- The coefficients of the rising products 2 to 13, of each those at the places 1 to n - 1, one product after the other.
pub record Rows (rows : List ℕ) : Type 0 where
  pub place : (n j : ℕ) → 1 ≤ j → j < n → n ≤ 13 → get_or rows ((n - 1) * (n - 2) / 2 + j - 1) 0 ≡ get_or (rising n) j 0

-- Fourteen places to which t times the n-th rising product can be added in 32 bits: none is above 2 to the 32nd less 2 to
-- the 26th, so that there is room for a product.
pub record Addable (K t n : ℕ) (p : List ℕ) : Type 0 where
  pub low : 0 < K
  pub high : K ≤ 8192
  pub factor : t ≤ K
  pub some : 1 ≤ n
  pub inner : n ≤ 13
  pub at_most : AtMost 4227858432 p
  pub places : length p ≡ 14

-- What stands at the place k once t times the n-th rising product is added: its coefficient is brought below K first, and the sum is not.
abbrev pub sum_at : ℕ → ℕ → ℕ → List ℕ → ℕ → ℕ
sum_at K t n p k = get_or p k 0 + t * (get_or (rising n) k 0 % K)

-- q is p with t times the n-th rising product added below the place n.
abbrev pub Added : ℕ → ℕ → ℕ → List ℕ → List ℕ → Type 0
Added K t n p q = Written (sum_at K t n p) n p q
