-- `value`: n is what the digits so far stand for. Before the last of five digits n is below 10,000, so no sum wraps.
use Rattle.cards.proofs.Numerals.{ValueTo}
use Rattle.cards.proofs.reading.value.Given as goal

abbrev pub invariant-loop-digit : goal.invariant-loop-digit
invariant-loop-digit l = ValueTo l.digits l.digit-index l.n
