-- To be believed: what each call of the encoder promises, on every input.
use Rattle.std.specs.Prelude.{◌≡◌, List, [], ◌∷◌, ℕ, ◌+◌, length}
use Rattle.triples.specs.declared.Triple.{Triple}
use Rattle.triples.specs.Shuffles.{triple, f}
use Rattle.refusals.specs.Refusals.{Test, Answer, no_row, no_block, no_bits, no_list}
use Rattle.standard.specs.Rows.{Row, HasRow}
use Rattle.coding.specs.Streams.{block_of, shuffled, Streams}
use Rattle.turbo.specs.declared.lengths.Row as declared

-- The tests of a length, and then those of an input and of three lists of these lengths.
abbrev pub row_tests : ℕ → List Test
row_tests k = no_row (HasRow k) ∷ []

abbrev pub lent_tests : ℕ → List ℕ → ℕ → ℕ → ℕ → List Test
lent_tests k input n0 n1 n2 =
    no_block k (length input) ∷ no_bits input ∷ no_list (λ n. n ≡ k + 4) n0 ∷ no_list (λ n. n ≡ k + 4) n1 ∷ no_list (λ n. n ≡ k + 4) n2 ∷ []

-- The standard's row of a length.
abbrev pub RowOf : ℕ → declared.Row → Type 0
RowOf k r = Answer (row_tests k) [] r.number (Row (triple k r.f1 r.f2)) ((r.f1 ≡ 0) × (r.f2 ≡ 0))

-- The three streams of an input: the first coder codes it as it stands, the second as the standard's row of its length shuffles it.
pub record Encoded (k : ℕ) (input before0 before1 before2 d0 d1 d2 : List ℕ) : Type 0 where
  pub row : Triple
  pub listed : Row row
  pub length_is : row.k ≡ k
  pub streams : Streams k (block_of input) (shuffled (f row) input) before0 before1 before2 d0 d1 d2

-- An input is encoded: the number, and the three lists after the call; a refused call leaves them as they came.
abbrev pub Encodes : ℕ → List ℕ → List ℕ → List ℕ → List ℕ → ℕ → List ℕ → List ℕ → List ℕ → Type 0
Encodes k input before0 before1 before2 number d0 d1 d2 =
    Answer (row_tests k) (lent_tests k input (length before0) (length before1) (length before2)) number
    (Encoded k input before0 before1 before2 d0 d1 d2)
    ((d0 ≡ before0) × (d1 ≡ before1) × (d2 ≡ before2))
