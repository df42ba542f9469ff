-- To be believed: the answer of `row_of` as C has it: 0 and the two coefficients, or the number of a refusal and zeros.
use Rattle.std.specs.Prelude.{Result, Ok, Err}
use Rattle.triples.specs.declared.Triple.{Triple}
use Rattle.refusals.specs.declared.refusal.Refusal.{Refusal}
use Rattle.refusals.specs.Numbers.{number_of}
use Rattle.turbo.specs.declared.lengths.Row as declared

abbrev pub shown_row : Result Triple Refusal → declared.Row
shown_row (Ok t) = record { number = 0; f1 = t.f1; f2 = t.f2 }
shown_row (Err refusal) = record { number = number_of refusal; f1 = 0; f2 = 0 }
