-- Serves inside: the number that stands at the front of a text.
use Rattle.std.specs.Prelude.{◌≡◌, List, [], ◌∷◌, ◌++◌, ℕ, ◌≤◌, length, take, drop}
use Rattle.cards.specs.Texts.{space, Digit, Digits, Number}

-- The text does not begin with a digit.
abbrev pub Stops : List ℕ → Type 0
Stops [] = Unit {0}
Stops (byte ∷ more) = ¬ (Digit byte)

-- All the digits that the text begins with end at `end`.
pub record Run (text : List ℕ) (end : ℕ) : Type 0 where
  pub within : end ≤ length text
  pub digits : Digits (take end text)
  pub stops : Stops (drop end text)

-- All the digits that the text begins with are the number n, and then comes the rest.
pub record Front (text : List ℕ) (n : ℕ) (rest : List ℕ) : Type 0 where
  pub front : List ℕ
  pub number : Number front n
  pub split : text ≡ front ++ rest
  pub stops : Stops rest

-- No number stands at the front of the text with such a rest.
abbrev pub NoFront : (List ℕ → Type 0) → List ℕ → Type 0
NoFront Such text = (m : ℕ) (other : List ℕ) → Such other → ¬ Front text m other

-- Any rest; a rest that begins with a space; no rest.
abbrev pub Anything : List ℕ → Type 0
Anything rest = Unit {0}

abbrev pub Spaced : List ℕ → Type 0
Spaced rest = (more : List ℕ) × (rest ≡ space ∷ more)

abbrev pub NoMore : List ℕ → Type 0
NoMore rest = rest ≡ []
