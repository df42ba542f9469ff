-- Serves inside: the least of many distances.
use Rattle.std.specs.Prelude.{◌≡◌, ◌⊎◌, List, ℕ, ◌+◌, ◌*◌, ◌/◌, ◌%◌, ◌≤◌, ◌<◌, length, get_or}
use Rattle.spreading.specs.Spreads.{circular}

-- r is the least of a number and the values of a map below n.
pub record Least (value : ℕ → ℕ) (n start r : ℕ) : Type 0 where
  pub first : r ≤ start
  pub below : (x : ℕ) → x < n → r ≤ value x
  pub met : (r ≡ start) ⊎ ((x : ℕ) × (x < n) × (r ≡ value x))

-- The distance round n of the addresses of x and of the position d further on.
abbrev pub gap : (ℕ → ℕ) → ℕ → ℕ → ℕ → ℕ
gap φ n d x = circular n (φ x) (φ ((x + d) % n))

-- The entries of a list, as a map.
abbrev pub entry : List ℕ → ℕ → ℕ
entry list i = get_or list i 0

-- The distance round n of the entries at i and d places further on.
abbrev pub pair : List ℕ → ℕ → ℕ → ℕ → ℕ
pair list n d i = circular n (entry list i) (entry list (i + d))

-- So many places of the list hold addresses below n, which is small enough for 16 bits.
pub record Addresses (list : List ℕ) (n places : ℕ) : Type 0 where
  pub few : n ≤ 8192
  pub within : places ≤ length list
  pub below : (i : ℕ) → i < places → entry list i < n

-- The next multiple of 4.
abbrev pub fours : ℕ → ℕ
fours n = (n + 3) / 4 * 4

-- A search goes on by an entry for each distance, and a spread of s takes more than s·(s - 1) positions: so there is room behind these places.
pub record Room (list : List ℕ) (n places : ℕ) : Type 0 where
  pub room : ℕ
  pub within : places + room ≤ length list
  pub enough : n ≤ room * (room + 1)

abbrev pub Roomy : List ℕ → ℕ → Type 0
Roomy list n = Room list n (fours n)

-- The list holds n addresses and goes on from its start for so many places in all.
pub record Round (list : List ℕ) (n places : ℕ) : Type 0 where
  pub few : places ≤ 8192
  pub some : 2 ≤ n
  pub all : n ≤ places
  pub below : (i : ℕ) → i < n → entry list i < n
  pub again : (i : ℕ) → i < places → entry list i ≡ entry list (i % n)
  pub behind : Room list n places
