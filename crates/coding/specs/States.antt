-- Serves inside: a coder as a state that moves on. The state is the three bits that entered last, the newest of weight 4.
use Rattle.std.specs.Prelude.{◌≡◌, cond, List, [], ◌∷◌, ℕ, zero, suc, ◌+◌, ◌*◌, ◌/◌, ◌%◌, ◌<◌, ltb, length, get_or}
use Rattle.coding.specs.Coders.{feedback, output, earlier}
use Rattle.coding.specs.declared.trellis.Coded.{Coded}

-- what a polynomial picks from the bit that enters and the three of a state
abbrev pub drawn : List ℕ → List ℕ → ℕ
drawn [] bits = 0
drawn (c ∷ more) [] = 0
drawn (c ∷ more) (b ∷ bits) = c * b + drawn more bits

abbrev pub cells : ℕ → ℕ → List ℕ
cells entering state = entering ∷ state / 4 ∷ state / 2 % 2 ∷ state % 2 ∷ []

abbrev pub fed : ℕ → ℕ
fed state = drawn (earlier feedback) (cells 0 state) % 2

abbrev pub entering : ℕ → ℕ → ℕ
entering state bit = (bit + fed state) % 2

abbrev pub next : ℕ → ℕ → ℕ
next state bit = 4 * entering state bit + state / 2

abbrev pub parity : ℕ → ℕ → ℕ
parity state bit = drawn output (cells (entering state bit) state) % 2

-- a table of next states and parities: for each state, by either bit
abbrev pub entry : List (ℕ × ℕ) → ℕ → ℕ → ℕ × ℕ
entry table state bit = get_or table (2 * state + bit) (0, 0)

pub record Table (table : List (ℕ × ℕ)) : Type 0 where
  pub size : length table ≡ 16
  pub nexts : (state bit : ℕ) → state < 8 → bit < 2 → (entry table state bit).0 ≡ next state bit
  pub parities : (state bit : ℕ) → state < 8 → bit < 2 → (entry table state bit).1 ≡ parity state bit

-- a bit was coded
pub record Step (state bit after z : ℕ) : Type 0 where
  pub state_is : after ≡ next state bit
  pub parity_is : z ≡ parity state bit

-- the state at time n, and what is coded then: of a block of k bits, and afterwards what is fed back
unfoldable pub state_at : ℕ → (ℕ → ℕ) → ℕ → ℕ
state_at k block zero = 0
state_at k block (suc n) = next (state_at k block n) (cond (ltb n k) (block n) (fed (state_at k block n)))

abbrev pub coded_at : ℕ → (ℕ → ℕ) → ℕ → ℕ
coded_at k block n = cond (ltb n k) (block n) (fed (state_at k block n))

abbrev pub parity_at : ℕ → (ℕ → ℕ) → ℕ → ℕ
parity_at k block n = parity (state_at k block n) (coded_at k block n)

-- what is coded at time n, and its parity
abbrev pub both_at : ℕ → (ℕ → ℕ) → ℕ → Coded
both_at k block n = record { x = coded_at k block n; z = parity_at k block n }

-- the three bits that end a coder, and their parities, for whatever it coded
pub record Ends (state : ℕ) (tail : List Coded) : Type 0 where
  pub ends : (k : ℕ) (block : ℕ → ℕ) → state ≡ state_at k block k
      → tail ≡ both_at k block k ∷ both_at k block (k + 1) ∷ both_at k block (k + 2) ∷ []
