-- Serves inside: the number that a function's tests lead to, as a record, so that laws find the tests.
use Rattle.std.specs.Prelude.{List, ◌++◌, ℕ}
use Rattle.refusals.specs.Refusals.{Test, First}

-- The tests on the numbers of a call, and then its own.
pub record Leads (tests own : List Test) (number : ℕ) : Type 0 where
  pub first : First (tests ++ own) number
