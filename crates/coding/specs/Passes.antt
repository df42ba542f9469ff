-- Serves inside: what the pass over a block asks for and leaves.
use Rattle.std.specs.Prelude.{◌≡◌, List, ℕ, ◌+◌, ◌≤◌, ◌<◌, length, get_or}
use Rattle.numbers.specs.Lists.{Written}
use Rattle.triples.specs.declared.Triple.{Triple}
use Rattle.triples.specs.Shuffles.{InRange}
use Rattle.coding.specs.Streams.{block_of}

-- a block of K bits, and three lists with room for it and a tail
pub record Ready (t : Triple) (input : List ℕ) (n0 n1 n2 : ℕ) : Type 0 where
  pub range : InRange t
  pub size : length input ≡ t.k
  pub bits : (i : ℕ) → block_of input i < 2
  pub room0 : t.k + 4 ≤ n0
  pub room1 : t.k + 4 ≤ n1
  pub room2 : t.k + 4 ≤ n2

-- After k entries that follow some rule further ones were written, which follow it too if they are those of the rule.
pub record Extended (k : ℕ) (entries list after : List ℕ) : Type 0 where
  pub size : length after ≡ length list
  pub extends : (rule : ℕ → ℕ) (before : List ℕ) → Written rule k before list → ((j : ℕ) → j < length entries → get_or entries j 0 ≡ rule (k + j))
      → Written rule (k + length entries) before after
