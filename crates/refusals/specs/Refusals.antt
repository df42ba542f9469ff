-- To be believed: the numbers of refusal, the order of their tests, and what an answer is. Every promise cites them.
use Rattle.std.specs.Prelude.{◌≡◌, ◌⊎◌, ◌≢◌, List, [], ◌∷◌, ◌++◌, ℕ, ◌≤◌, ◌<◌, length, get_or}
use Rattle.permuting.specs.Formulas.{Formula, Permutes}

-- A row of the table: a number, and when it is given.
pub record Test : Type 1 where
  pub number : ℕ
  pub applies : Type 0

-- One of the coefficients is not below k.
abbrev pub Reaches : ℕ → List ℕ → Type 0
Reaches k [] = ⊥
Reaches k (coefficient ∷ more) = (k ≤ coefficient) ⊎ Reaches k more

-- The table. k is the length.
abbrev pub no_length : ℕ → Test
no_length k = record { number = 1; applies = (k < 2) ⊎ (8192 < k) }

abbrev pub no_coefficient : ℕ → List ℕ → Test
no_coefficient k coefficients = record { number = 2; applies = Reaches k coefficients }

abbrev pub no_shuffle : Formula → Test
no_shuffle φ = record { number = 3; applies = ¬ Permutes φ }

-- `size` is the length of the lent block, scratch or list; `Needed n` says that n entries are needed.
abbrev pub no_block : ℕ → ℕ → Test
no_block k size = record { number = 4; applies = size ≢ k }

-- Where bits are wanted, a byte of the block is neither 0 nor 1.
abbrev pub no_bits : List ℕ → Test
no_bits block = record { number = 4; applies = (i : ℕ) × (i < length block) × (1 < get_or block i 0) }

abbrev pub no_scratch : ℕ → ℕ → Test
no_scratch bytes size = record { number = 5; applies = size < bytes }

-- Of a walker made by hand.
abbrev pub no_position : ℕ → ℕ → Test
no_position k x = record { number = 6; applies = k ≤ x }

abbrev pub no_list : (ℕ → Type 0) → ℕ → Test
no_list Needed size = record { number = 7; applies = (n : ℕ) × Needed n × (size < n) }

-- An accepted formula has nothing to be explained.
abbrev pub nothing_to_explain : Formula → Test
nothing_to_explain φ = record { number = 8; applies = Permutes φ }

-- A standard has rows for some lengths; `Has` says that it has one for that of the call.
abbrev pub no_row : Type 0 → Test
no_row Has = record { number = 9; applies = ¬ Has }

-- n is the number of the first test that applies, and 0 where none does.
abbrev pub First : List Test → ℕ → Type 0
First [] n = n ≡ 0
First (test ∷ more) n = ((n ≡ test.number) × test.applies) ⊎ ((¬ test.applies) × First more n)

-- The tests of a formula, in their order: of its range, and of a shuffle.
abbrev pub range_tests : Formula → List Test
range_tests φ = no_length φ.length ∷ no_coefficient φ.length φ.coefficients ∷ []

abbrev pub shuffle_tests : Formula → List Test
shuffle_tests φ = range_tests φ ++ (no_shuffle φ ∷ [])

-- The tests of a block of k symbols and a scratch, of these lengths.
abbrev pub block_tests : ℕ → ℕ → ℕ → ℕ → List Test
block_tests k bytes block scratch = no_block k block ∷ no_scratch bytes scratch ∷ []

-- Acceptance: the number.
abbrev pub Acceptance : Formula → ℕ → Type 0
Acceptance φ number = First (shuffle_tests φ) number

-- A call tests its numbers and then what it was lent or asked for, and answers or refuses by a number of the table: 0 with what was asked
-- for, or another number and nothing beside it.
pub record Answer (tests own : List Test) (number : ℕ) (Done Nothing : Type 0) : Type 0 where
  pub first : First (tests ++ own) number
  pub done : number ≡ 0 → Done
  pub refused : number ≢ 0 → Nothing
