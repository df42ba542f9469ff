use Rattle.asking.proofs.Numerals.{value_more}
use Rattle.asking.proofs.words.value_of.Goals as goal

pub loop-digit-preserved : goal.loop-digit-preserved
loop-digit-preserved c =
    let i = c.loop-digit.digit-index in
    let digit = c.requires i 0 c.loop-digit-test.true in
    value_more c.args.digits.now i c.loop-digit-test.true digit.0 digit.1 c.loop-digit.invariant c.longer-number.ensures
