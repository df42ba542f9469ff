-- `push_word`: the bytes so far are at the end of the text.
use Rattle.std.proofs.Common.{◌≡◌, ◌++◌, take}
use Rattle.cards.proofs.writing.Text.push_word.Given as goal

abbrev pub invariant-loop-byte : goal.invariant-loop-byte
invariant-loop-byte l = l.self ≡ l.initial.self ++ take l.byte-index l.word
