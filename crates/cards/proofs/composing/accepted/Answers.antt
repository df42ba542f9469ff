use Rattle.std.proofs.Common.{append_assoc}
use Rattle.cards.proofs.Buffers.{fields_then}
use Rattle.cards.proofs.composing.accepted.Goals as goal

pub returns : goal.returns
returns c =
    rw (c.push.ensures, c.push_fields-2.ensures.text, c.push_fields.ensures.text, c.push_field.ensures.text, c.push_word.ensures, c.begin.ensures.text)
    (simp (fields_then, append_assoc))
