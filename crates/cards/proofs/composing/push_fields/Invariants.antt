-- `push_fields`: the numbers so far are at the end of the text, in the room of as many fields at most.
use Rattle.std.proofs.Common.{◌≡◌, ◌++◌, ◌+◌, ◌*◌, ◌≤◌, length, take}
use Rattle.cards.specs.Texts.{fields}
use Rattle.cards.specs.Widths.{field_room}
use Rattle.cards.proofs.composing.push_fields.Given as goal

abbrev pub invariant-loop-n : goal.invariant-loop-n
invariant-loop-n l = record {
  text : l.text ≡ l.initial.text ++ fields (take l.n-index l.numbers);
  short : length l.text ≤ length l.initial.text + field_room * l.n-index;
}
