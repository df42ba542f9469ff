use Rattle.std.proofs.Common.{append_assoc}
use native.Mathlib.Omega.{arith}
use Rattle.cards.proofs.Buffers.{fields_next}
use Rattle.cards.proofs.composing.push_fields.Goals as goal

pub loop-n-preserved : goal.loop-n-preserved
loop-n-preserved c =
    record {
      text = let more = fields_next c.args.numbers.now c.loop-n.n-index (omega arith) in rw (c.push_field.ensures.text, c.loop-n.invariant.text, more) (simp append_assoc);
      short = omega (arith, c.push_field.ensures.short, c.loop-n.invariant.short);
    }
