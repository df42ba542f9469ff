-- Serves inside: marks in lent bytes, one bit to a place. Place i is bit i % 8 of byte i / 8.
use Rattle.std.specs.Prelude.{◌≡◌, Bool, true, false, List, ℕ, ◌/◌, ◌%◌, ◌^◌, ◌<◌, ◌≤◌, eqb, length, get_or, set, drop}
use Rattle.permuting.specs.Tabulation.{tab}

-- is bit j of the number b set
unfoldable pub bit : ℕ → ℕ → Bool
bit b j = eqb (b / 2 ^ j % 2) 1

-- is place i marked
unfoldable pub marked : List ℕ → ℕ → Bool
marked s i = bit (get_or s (i / 8) 0) (i % 8)

-- the marks of the places 0 .. k - 1, as a list of yes and no
unfoldable pub marks : ℕ → List ℕ → List Bool
marks k s = tab (marked s) k

-- changed in its first n bytes alone
pub record Kept (n : ℕ) (before after : List ℕ) : Type 0 where
  pub size : length after ≡ length before
  pub tail : drop n after ≡ drop n before

-- in the list of yes and no, of any number of places, the answer stands at place i
abbrev pub Stands : Bool → ℕ → List ℕ → Type 0
Stands answer i s = (k : ℕ) → i < k → get_or (marks k s) i false ≡ answer

-- place i came to be marked, no other mark changed, and no byte past the one that holds it
pub record Marked (i : ℕ) (before after : List ℕ) : Type 0 where
  pub marks : (k : ℕ) → marks k after ≡ set (marks k before) i true
  pub kept : (n : ℕ) → i / 8 < n → Kept n before after

-- one step along a map π: place i came to be marked, and next is where π takes it
pub record Followed (π : ℕ → ℕ) (i next : ℕ) (before after : List ℕ) : Type 0 where
  pub goes : next ≡ π i
  pub marked : Marked i before after

-- in the list of yes and no of n places, r is the first no from `from` on, or n if there is none
pub record FirstFree (n from r : ℕ) (s : List ℕ) : Type 0 where
  pub least : from ≤ r
  pub most : r ≤ n
  pub passed : (j : ℕ) → from ≤ j → j < r → get_or (marks n s) j false ≡ true
  pub free : r < n → get_or (marks n s) r false ≡ false
