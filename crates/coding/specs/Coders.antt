-- To be believed: a coder of 3GPP TS 36.212, clause 5.1.3.2, by its two polynomials. A sequence has a bit for each time from 0.
use Rattle.std.specs.Prelude.{◌≡◌, List, [], ◌∷◌, ℕ, zero, suc, ◌+◌, ◌*◌, ◌%◌, ◌≤◌, ◌<◌}

-- 1 + D² + D³, constant first
abbrev pub feedback : List ℕ
feedback = 1 ∷ 0 ∷ 1 ∷ 1 ∷ []

-- 1 + D + D³
abbrev pub output : List ℕ
output = 1 ∷ 1 ∷ 0 ∷ 1 ∷ []

-- D: a sequence one step later. Before time 0 every bit is 0.
abbrev pub delayed : (ℕ → ℕ) → ℕ → ℕ
delayed b zero = 0
delayed b (suc n) = b n

-- What a polynomial picks from a sequence at time n: the sum of b(n), b(n-1), b(n-2) and so on, each times its coefficient.
abbrev pub picked : List ℕ → (ℕ → ℕ) → ℕ → ℕ
picked [] b n = 0
picked (c ∷ more) b n = c * b n + picked more (delayed b) n

-- A polynomial without its constant: it picks from earlier bits alone.
abbrev pub earlier : List ℕ → List ℕ
earlier [] = []
earlier (c ∷ more) = 0 ∷ more

-- What is fed back at time n to the bits w that enter the register.
abbrev pub fed_back : (ℕ → ℕ) → ℕ → ℕ
fed_back w n = picked (earlier feedback) w n % 2

-- The coding of a block of k bits. After the block, to end, the coder takes what is fed back in the place of an input.
pub record Coding (k : ℕ) (block : ℕ → ℕ) : Type 0 where
  -- what is coded, what enters the register, and the parity
  pub x : ℕ → ℕ
  pub w : ℕ → ℕ
  pub z : ℕ → ℕ
  pub inside : (n : ℕ) → n < k → x n ≡ block n
  pub after : (n : ℕ) → k ≤ n → x n ≡ fed_back w n
  pub enters : (n : ℕ) → w n ≡ (x n + fed_back w n) % 2
  pub given : (n : ℕ) → z n ≡ picked output w n % 2
