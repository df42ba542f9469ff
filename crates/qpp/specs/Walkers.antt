-- To be believed: what the walker promises.
use Rattle.std.specs.Prelude.{◌≡◌, List, [], ◌∷◌, ◌++◌, ℕ, suc, ◌+◌, ◌%◌}
use Rattle.triples.specs.declared.Triple.{Triple}
use Rattle.triples.specs.Shuffles.{triple, f, quadratic}
use Rattle.refusals.specs.Refusals.{Test, Answer, range_tests, shuffle_tests, no_position}
use Rattle.qpp.specs.declared.walker.Walker.{Walker}
use Rattle.qpp.specs.declared.walker.Start.{Start}
use Rattle.qpp.specs.declared.walker.Step.{Step}

-- The walker of a triple at a position.
abbrev pub walker : Triple → ℕ → Walker
walker t at = record { triple = t; at = at }

-- The walker of all zeros.
abbrev pub nowhere : Walker
nowhere = walker (triple 0 0 0) 0

-- It starts at position 0, and only for an accepted triple.
abbrev pub Started : Triple → Start → Type 0
Started t r = Answer (shuffle_tests (quadratic t)) [] r.number (r.walker ≡ walker t 0) (r.walker ≡ nowhere)

-- The tests of a step, in their order.
abbrev pub own_tests : Walker → List Test
own_tests w = no_position w.triple.k w.at ∷ []

abbrev pub step_tests : Walker → List Test
step_tests w = range_tests (quadratic w.triple) ++ own_tests w

-- A step hands out the present address together with the walker moved on; after K-1 comes 0.
abbrev pub Stepped : Walker → Step → Type 0
Stepped w r =
    Answer (range_tests (quadratic w.triple)) (own_tests w) r.number
    ((r.address ≡ f w.triple w.at) × (r.walker ≡ walker w.triple ((w.at + 1) % w.triple.k)))
    ((r.address ≡ 0) × (r.walker ≡ nowhere))

-- Steps in a row: each takes the walker that the one before handed back.
pub record Walk (from : Walker) (steps : ℕ → Step) : Type 0 where
  pub first : Stepped from (steps 0)
  pub next : (n : ℕ) → Stepped (steps n).walker (steps (suc n))
