-- To be believed: the number that stands for each refusal, and 0 for what is done.
use Rattle.std.specs.Prelude.{ℕ, Result, Ok, Err}
use Rattle.refusals.specs.declared.refusal.Refusal.{Refusal}
use Rattle.refusals.specs.declared.refusal.Refusal.TheVariants.{Length, Coefficient, Shuffle, Block, Scratch, Position, List, Explained, Row}

abbrev pub number_of : Refusal → ℕ
number_of Length = 1
number_of Coefficient = 2
number_of Shuffle = 3
number_of Block = 4
number_of Scratch = 5
number_of Position = 6
number_of List = 7
number_of Explained = 8
number_of Row = 9

abbrev pub number : {T : Type 0} → Result T Refusal → ℕ
number (Ok _) = 0
number (Err refusal) = number_of refusal
