-- The table at this state and bit.
use native.Mathlib.Omega.{arith}
use Rattle.coding.proofs.States.{entry_from, next_lt}
use Rattle.coding.proofs.trellis.Coder.code.Goals as goal

pub invariant_of-self : goal.invariant_of-self
invariant_of-self c =
    let s = c.args.self.now.state in
    let b = c.args.bit in
    rw (entry_from c.table.result.now s b (omega arith) (omega arith))
    (omega (arith, c.table.ensures.nexts s b (omega arith) (omega arith), next_lt s b (omega arith)))

pub returns : goal.returns
returns c =
    let s = c.args.self.now.state in
    let b = c.args.bit in
    rw (entry_from c.table.result.now s b (omega arith) (omega arith))
    (record {
      state_is = c.table.ensures.nexts s b (omega arith) (omega arith);
      parity_is = c.table.ensures.parities s b (omega arith) (omega arith);
    })
