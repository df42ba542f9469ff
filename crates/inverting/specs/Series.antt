-- Serves inside: the series that undoes f, before it is brought inside the limits.
use Rattle.std.specs.Prelude.{◌≡◌, List, [], ◌∷◌, ℕ, zero, suc, ◌*◌, ◌-◌, ◌^◌, ◌≤◌, ◌<◌, length, get_or}
use Rattle.numbers.specs.Congruences.{Cong}
use Rattle.polynomials.specs.Reductions.{AtMost}

-- The Catalan numbers C(0) to C(12).
unfoldable pub catalan : List ℕ
catalan = 1 ∷ 1 ∷ 2 ∷ 5 ∷ 14 ∷ 42 ∷ 132 ∷ 429 ∷ 1430 ∷ 4862 ∷ 16796 ∷ 58786 ∷ 208012 ∷ []

-- The coefficient at the place j + 1: C(j)·r·(-f2·r²) to the j-th, where k - 1 stands for -1. There is no constant.
unfoldable pub term : ℕ → ℕ → ℕ → ℕ → ℕ
term k f2 r zero = 0
term k f2 r (suc j) = r * (((k - 1) * (f2 * (r * r))) ^ j * get_or catalan j 0)

-- s is the series: it has no constant, and each place is its term up to multiples of k and at most 2 to the 31st.
pub record Series (k f2 r : ℕ) (s : List ℕ) : Type 0 where
  pub free : get_or s 0 0 ≡ 0
  pub terms : (j : ℕ) → Cong k (get_or s j 0) (term k f2 r j)
  pub at_most : AtMost 2147483648 s

-- What making the series asks: numbers in range, and fourteen places of zeros.
pub record Blank (k f2 r : ℕ) (s : List ℕ) : Type 0 where
  pub few : k ≤ 8192
  pub second : f2 < k
  pub reciprocal : r < k
  pub zeros : AtMost 0 s
  pub places : length s ≡ 14
