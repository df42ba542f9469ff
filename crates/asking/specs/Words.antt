-- To be believed: which word a line begins with, and which number.
use Rattle.std.specs.Prelude.{◌≡◌, ◌≢◌, List, ◌++◌, ℕ, ◌^◌, ◌≤◌, ◌<◌, length, slice_index, All}
use Rattle.std.specs.Str.Parse.{digits_value}

-- The line is spaces, then the word, without a space in it, and then the rest, which is empty or begins with a space.
pub record BeginsWith (line word rest : List ℕ) : Type 0 where
  pub spaces : List ℕ
  pub gap : All (λ byte. byte ≡ 32) spaces
  pub some : 0 < length word
  pub solid : All (λ byte. byte ≢ 32) word
  pub parts : line ≡ spaces ++ (word ++ rest)
  pub ends : 0 < length rest → slice_index rest 0 ≡ 32

-- The line begins with a word that is this number in digits.
abbrev pub BeginsWithNumber : List ℕ → ℕ → List ℕ → Type 0
BeginsWithNumber line number rest = (word : List ℕ) × BeginsWith line word rest × (number ≡ digits_value 10 word)

-- The line begins with a word that is no number in digits, or too large a one.
abbrev pub BeginsWithNone : List ℕ → List ℕ → Type 0
BeginsWithNone line rest = (word : List ℕ) × BeginsWith line word rest × (¬ All (λ byte. (48 ≤ byte) × (byte ≤ 57)) word)

abbrev pub BeginsWithLarge : List ℕ → List ℕ → Type 0
BeginsWithLarge line rest = (word : List ℕ) × BeginsWith line word rest × (2 ^ 32 ≤ digits_value 10 word)
