use native.Mathlib.Omega.{arith}
use Rattle.cards.proofs.Numerals.{digits_at, value_small}
use Rattle.cards.proofs.reading.value.Goals as goal

pub overflow_sub-digit : goal.overflow_sub-digit
overflow_sub-digit c = (digits_at c.args.digits.now c.loop-digit.digit-index c.requires.0 (omega arith)).low

pub overflow_add-n : goal.overflow_add-n
overflow_add-n c =
    omega (arith, value_small c.loop-digit.invariant c.requires.0 c.requires.1 (omega arith), digits_at c.args.digits.now c.loop-digit.digit-index c.requires.0 (omega arith))
