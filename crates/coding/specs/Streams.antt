-- To be believed: the three streams of 3GPP TS 36.212, clause 5.1.3.2, with the twelve bits of their tails.
use Rattle.std.specs.Prelude.{cond, List, [], ◌∷◌, ℕ, ◌+◌, ◌-◌, ltb, get_or}
use Rattle.numbers.specs.Lists.{Written}
use Rattle.coding.specs.Coders.{Coding}

-- a block as a sequence
abbrev pub block_of : List ℕ → ℕ → ℕ
block_of block i = get_or block i 0

-- the block as a map shuffles it: at place i what stands at π i
abbrev pub shuffled : (ℕ → ℕ) → List ℕ → ℕ → ℕ
shuffled π block i = block_of block (π i)

-- k bits of a sequence, and then a tail
abbrev pub ended : ℕ → (ℕ → ℕ) → List ℕ → ℕ → ℕ
ended k bits tail n = cond (ltb n k) (bits n) (get_or tail (n - k) 0)

-- The streams d0, d1, d2 of what the first coder codes and of what the second does, k bits each, in lists that held something else before.
pub record Streams (k : ℕ) (one other : ℕ → ℕ) (before0 before1 before2 d0 d1 d2 : List ℕ) : Type 0 where
  pub first : Coding k one
  pub second : Coding k other
  pub stream0 : Written (ended k first.x (first.x k ∷ first.z (k + 1) ∷ second.x k ∷ second.z (k + 1) ∷ [])) (k + 4) before0 d0
  pub stream1 : Written (ended k first.z (first.z k ∷ first.x (k + 2) ∷ second.z k ∷ second.x (k + 2) ∷ [])) (k + 4) before1 d1
  pub stream2 : Written (ended k second.z (first.x (k + 1) ∷ first.z (k + 2) ∷ second.x (k + 1) ∷ second.z (k + 2) ∷ [])) (k + 4) before2 d2
