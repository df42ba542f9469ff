-- To be believed: numbers as text, and text in a buffer. A byte is a number.
use Rattle.std.specs.Prelude.{◌≡◌, cond, List, [], ◌∷◌, ◌++◌, ℕ, zero, suc, ◌+◌, ◌-◌, ◌*◌, ◌/◌, ◌%◌, ◌≤◌, ltb, length, take, drop}

abbrev pub space : ℕ
space = 32

abbrev pub newline : ℕ
newline = 10

-- ---- reading

-- A byte from 0 to 9.
pub record Digit (byte : ℕ) : Type 0 where
  pub low : 48 ≤ byte
  pub high : byte ≤ 57

-- Every byte is a digit.
abbrev pub Digits : List ℕ → Type 0
Digits [] = Unit {0}
Digits (byte ∷ more) = Digit byte × Digits more

-- What digits stand for after digits that stand for n.
abbrev pub spelt : ℕ → List ℕ → ℕ
spelt n [] = n
spelt n (byte ∷ more) = spelt (10 * n + (byte - 48)) more

abbrev pub most_digits : ℕ
most_digits = 5

-- The text is 1 to 5 digits that stand for n.
pub record Number (text : List ℕ) (n : ℕ) : Type 0 where
  pub digits : Digits text
  pub some : 1 ≤ length text
  pub few : length text ≤ most_digits
  pub stands_for : n ≡ spelt 0 text

-- The text is the number n, a space, and such a rest.
pub record Begins (n : ℕ) (Such : List ℕ → Type 0) (text : List ℕ) : Type 0 where
  pub first : List ℕ
  pub rest : List ℕ
  pub split : text ≡ first ++ (space ∷ rest)
  pub number : Number first n
  pub such : Such rest

-- The text is these numbers, one or more, with one space between them.
abbrev pub Lists : List ℕ → List ℕ → Type 0
Lists [] text = ⊥
Lists (n ∷ []) text = Number text n
Lists (n ∷ m ∷ more) text = Begins n (Lists (m ∷ more)) text

-- ---- writing

-- The last digit of a number.
abbrev pub last_digit : ℕ → List ℕ
last_digit n = (48 + n % 10) ∷ []

-- The text of a number of at most `more` + 1 digits, without leading zeros.
unfoldable pub decimals : ℕ → ℕ → List ℕ
decimals zero n = last_digit n
decimals (suc more) n = cond (ltb n 10) (last_digit n) (decimals more (n / 10) ++ last_digit n)

-- The text of a number of 32 bits.
abbrev pub decimal : ℕ → List ℕ
decimal n = decimals 9 n

-- Each number as a space and its text.
abbrev pub fields : List ℕ → List ℕ
fields [] = []
fields (n ∷ more) = space ∷ (decimal n ++ fields more)

-- The numbers with one space between them.
abbrev pub listing : List ℕ → List ℕ
listing [] = []
listing (n ∷ more) = decimal n ++ fields more

-- ---- in a buffer

-- The text was written at a place of a buffer, up to `end`, and every other byte is as it was.
pub record Appended (before : List ℕ) (at : ℕ) (text after : List ℕ) (end : ℕ) : Type 0 where
  pub bytes : after ≡ take at before ++ (text ++ drop end before)
  pub size : end ≡ at + length text
  pub fits : end ≤ length before

-- Such a text was written.
pub record Wrote (Such : List ℕ → Type 0) (before : List ℕ) (at : ℕ) (after : List ℕ) (end : ℕ) : Type 0 where
  pub text : List ℕ
  pub such : Such text
  pub written : Appended before at text after end
