-- To be believed: what it means to permute a list by a map of its positions, for any map and any kind of element.
use Rattle.std.specs.Prelude.{◌≡◌, Bool, true, false, List, [], ◌∷◌, ℕ, ◌+◌, ◌<◌, length, get_or}

-- π takes the positions below n to positions below n, and no two to the same.
pub record Permutation (n : ℕ) (π : ℕ → ℕ) : Type 0 where
  pub within : (i : ℕ) → i < n → π i < n
  pub apart : (i j : ℕ) → i < n → j < n → π i ≡ π j → i ≡ j

-- After interleaving, place i holds the symbol that stood at π i. (d is only what `get_or` answers past a list's end.)
pub record Interleaved {A : Type 0} (d : A) (π : ℕ → ℕ) (before after : List A) : Type 0 where
  pub size : length after ≡ length before
  pub holds : (i : ℕ) → i < length before → get_or after i d ≡ get_or before (π i) d

-- After deinterleaving, place π i holds the symbol that stood at i.
pub record Deinterleaved {A : Type 0} (d : A) (π : ℕ → ℕ) (before after : List A) : Type 0 where
  pub size : length after ≡ length before
  pub holds : (i : ℕ) → i < length before → get_or after (π i) d ≡ get_or before i d

-- 1 for yes, 0 for no
abbrev pub one_if : Bool → ℕ
one_if true = 1
one_if false = 0

-- how many elements of a list pass the test p
unfoldable pub count : {A : Type 0} → (A → Bool) → List A → ℕ
count p [] = 0
count p (x ∷ xs) = one_if (p x) + count p xs
