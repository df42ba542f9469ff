-- To be believed: a start and a step of the walker as C has them: 0 and what was asked for, or the number of a refusal and zeros.
use Rattle.std.specs.Prelude.{ℕ, Result, Ok, Err}
use Rattle.refusals.specs.declared.refusal.Refusal.{Refusal}
use Rattle.refusals.specs.Numbers.{number_of}
use Rattle.qpp.specs.declared.walker.Walker.{Walker}
use Rattle.qpp.specs.declared.walker.Start.{Start}
use Rattle.qpp.specs.declared.walker.Step.{Step}
use Rattle.qpp.specs.Walkers.{nowhere}

abbrev pub start_of : Result Walker Refusal → Start
start_of (Ok w) = record { number = 0; walker = w }
start_of (Err refusal) = record { number = number_of refusal; walker = nowhere }

abbrev pub step_of : Result (ℕ × Walker) Refusal → Step
step_of (Ok (address, w)) = record { number = 0; address = address; walker = w }
step_of (Err refusal) = record { number = number_of refusal; address = 0; walker = nowhere }
