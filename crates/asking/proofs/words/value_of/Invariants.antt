-- The number of the digits so far.
use Prim.Native.Nat.{◌-◌, ◌^◌}
use lib.ListN.{take}
use mathlib.Core.Path.{◌≡◌}
use Rattle.std.specs.Prelude.{min}
use Rattle.std.specs.Str.Parse.{digits_value}
use Rattle.asking.proofs.words.value_of.Given as goal

abbrev pub invariant-loop-digit : goal.invariant-loop-digit
invariant-loop-digit l = l.number ≡ min (digits_value 10 (take l.digit-index l.digits)) (2 ^ 64 - 1)
