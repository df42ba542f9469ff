-- Each table has room: 56 is 7·8, 256 is below 16·17, and 8192 is below 91·92.
use native.Mathlib.Omega.{arith}
use Rattle.spreading.proofs.spread.Goals as goal

pub measured-requires : goal.measured-requires
measured-requires c = (c.requires, record { room = 7; within = omega arith; enough = omega arith }, omega arith)

pub measured-requires-in-0-to-256 : goal.measured-requires-in-0-to-256
measured-requires-in-0-to-256 c = (c.requires, record { room = 16; within = omega arith; enough = omega arith }, omega arith)

pub measured-requires-in_default : goal.measured-requires-in_default
measured-requires-in_default c =
    let range = c.requires in
    (range, record { room = 91; within = omega (arith, range.high); enough = omega (arith, range.high) }, omega arith)
