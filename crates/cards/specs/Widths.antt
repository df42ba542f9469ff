-- Serves inside: how much room the parts of a card take.
use Rattle.std.specs.Prelude.{ℕ}

-- A space and the ten digits of the largest number.
abbrev pub field_room : ℕ
field_room = 11
