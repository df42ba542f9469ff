-- `push_field`: a number of 32 bits has at most ten digits.
use Rattle.std.proofs.Common.{ap, length, length-append}
use native.Mathlib.Omega.{arith}
use Rattle.cards.proofs.Decimals.{decimal_length}
use Rattle.cards.proofs.writing.Text.push_field.Goals as goal

pub push_number-requires : goal.push_number-requires
push_number-requires c = let spaced = simp length-append at (ap length c.push.ensures) in omega (arith, decimal_length c.args.n)

pub returns-clause-short : goal.returns-clause-short
returns-clause-short c =
    let spaced = simp length-append at (ap length c.push.ensures) in
    let numbered = simp length-append at (ap length c.push_number.ensures) in
    omega (arith, decimal_length c.args.n)
