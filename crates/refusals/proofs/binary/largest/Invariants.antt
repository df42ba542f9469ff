use Rattle.refusals.specs.Largest.{Largest}
use Rattle.refusals.proofs.binary.largest.Given as goal

-- most is the largest of the bytes that were passed
abbrev pub invariant-loop-byte : goal.invariant-loop-byte
invariant-loop-byte l = Largest l.bytes l.byte-index l.most
