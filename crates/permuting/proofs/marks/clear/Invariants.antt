-- The invariant: the bytes before the index are cleared, and the others are as they came.
use Rattle.std.proofs.Common.{◌≡◌, ◌++◌, drop, replicate}
use Rattle.permuting.proofs.marks.clear.Given as goal

abbrev pub invariant-loop-byte : goal.invariant-loop-byte
invariant-loop-byte l = l.byte-items ≡ replicate l.byte-index 0 ++ drop l.byte-index l.initial.byte-items
