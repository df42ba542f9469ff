-- Serves inside: the answer to a question of yes or no.
use Rattle.std.specs.Prelude.{◌≡◌, Bool, true, false}

-- Yes is answered only where P holds, and no only where it does not.
pub record Decides (P : Type 0) (answer : Bool) : Type 0 where
  pub yes_only_if : answer ≡ true → P
  pub no_only_if : answer ≡ false → ¬ P
