use Rattle.std.proofs.Common.{ap, ◌∙◌, append_assoc, length, length-append}
use native.Mathlib.Omega.{arith}
use Rattle.cards.proofs.Decimals.{decimal_one, decimal_more, decimal_more_length, decimal_length}
use Rattle.cards.proofs.writing.Text.+push_number.Goals.{then-n-ge-TWO_DIGITS, else-n-ge-TWO_DIGITS}
use Rattle.cards.proofs.writing.Text.+push_number.Goals as goal

pub push_number-requires : goal.push_number-requires
push_number-requires t c =
    (omega arith, omega (arith, decimal_more_length c.args.n (omega arith) (omega arith)))

-- the last digit has its room after the others
pub push-requires : goal.push-requires
push-requires t c =
    elim c.if-n-ge-TWO_DIGITS.branch [
      | then-n-ge-TWO_DIGITS w ↦ omega (arith, simp length-append at (ap length (w.self-is ∙ w.push_number.ensures)), decimal_more_length c.args.n (omega arith) (omega arith))
      | else-n-ge-TWO_DIGITS w ↦ omega (arith, ap length w.self-is, decimal_length c.args.n)
    ]

pub returns : goal.returns
returns t c =
    elim c.if-n-ge-TWO_DIGITS.branch [
      | then-n-ge-TWO_DIGITS w ↦ rw (c.push.ensures, w.self-is, w.push_number.ensures, decimal_more c.args.n (omega arith) (omega arith)) (simp append_assoc)
      | else-n-ge-TWO_DIGITS w ↦ rw (c.push.ensures, w.self-is, decimal_one c.args.n (omega arith))
    ]
