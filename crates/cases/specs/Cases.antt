-- To be believed: the cases of the scope that are marked as proved: one list, and what each case says by the definitions.
use Rattle.std.specs.Prelude.{◌≡◌, List, [], ◌∷◌, ◌++◌, ℕ, ◌<◌, length, get_or, replicate}
use Rattle.permuting.specs.Blocks.{Direction, interleave, deinterleave, marks_of}
use Rattle.triples.specs.declared.Triple.{Triple}
use Rattle.triples.specs.Shuffles.{triple, f, quadratic}
use Rattle.refusals.specs.Refusals.{Acceptance}
use Rattle.qpp.specs.Promises.{Moves, ReciprocalOf, ArpOf, InverseOf}

pub data Case : Type 0 where
  -- the number of acceptance
  judged : Triple → ℕ → Case
  -- f(0) to f(K-1)
  addresses : Triple → List ℕ → Case
  -- the reciprocal
  reciprocal : Triple → ℕ → Case
  -- a block, and what it becomes
  moves : Direction → Triple → List ℕ → List ℕ → Case
  -- the degree and the thirteen places
  inverse : Triple → ℕ → List ℕ → Case
  -- P, Q and S[0] to S[Q-1]
  arp : Triple → ℕ → ℕ → List ℕ → Case

-- What is a call's is said by its promise, with number 0: whatever scratch and list hold, and however much longer they are. The addresses
-- are said by the definition, since a triple that is refused has them too.
abbrev pub Holds : Case → Type 0
Holds (judged t number) = Acceptance (quadratic t) number
Holds (addresses t list) = (length list ≡ t.k) × ((x : ℕ) → x < t.k → get_or list x 0 ≡ f t x)
Holds (reciprocal t r) = ReciprocalOf t (record { number = 0; value = r })
Holds (moves w t before after) =
    (marks rest : List ℕ) → length marks ≡ marks_of t.k → Moves w (quadratic t) 0 before (marks ++ rest) 0 after (replicate (marks_of t.k) 0 ++ rest)
Holds (inverse t degree a) = InverseOf t (record { number = 0; degree = degree; a = a })
Holds (arp t p q list) =
    (room rest : List ℕ) → length room ≡ q → ArpOf t (room ++ rest) (record { number = 0; p = p; q = q }) (list ++ rest)

abbrev pub All : List Case → Type 0
All [] = Unit {0}
All (this ∷ more) = Holds this × All more

-- The letters A to I.
abbrev pub letters : List ℕ
letters = 65 ∷ 66 ∷ 67 ∷ 68 ∷ 69 ∷ 70 ∷ 71 ∷ 72 ∷ 73 ∷ []

abbrev pub cases : List Case
cases =
    judged (triple 2 0 1) 0
    ∷ inverse (triple 2 0 1) 1 (1 ∷ replicate 12 0)
    ∷ judged (triple 2 1 1) 3
    ∷ judged (triple 3 1 1) 3
    ∷ addresses (triple 3 1 1) (0 ∷ 2 ∷ 0 ∷ [])
    ∷ judged (triple 4 1 2) 0
    ∷ addresses (triple 4 1 2) (0 ∷ 3 ∷ 2 ∷ 1 ∷ [])
    ∷ inverse (triple 4 1 2) 1 (3 ∷ replicate 12 0)
    ∷ judged (triple 4 1 1) 3
    ∷ judged (triple 6 2 3) 0
    ∷ addresses (triple 6 2 3) (0 ∷ 5 ∷ 4 ∷ 3 ∷ 2 ∷ 1 ∷ [])
    ∷ inverse (triple 6 2 3) 1 (5 ∷ replicate 12 0)
    ∷ moves interleave (triple 6 2 3) (65 ∷ 66 ∷ 67 ∷ 68 ∷ 69 ∷ 70 ∷ []) (65 ∷ 70 ∷ 69 ∷ 68 ∷ 67 ∷ 66 ∷ [])
    ∷ judged (triple 8 1 4) 0
    ∷ inverse (triple 8 1 4) 1 (5 ∷ replicate 12 0)
    ∷ arp (triple 8 1 4) 1 2 (0 ∷ 4 ∷ [])
    ∷ judged (triple 9 1 3) 0
    ∷ inverse (triple 9 1 3) 2 (1 ∷ 6 ∷ replicate 11 0)
    ∷ moves interleave (triple 9 1 3) letters (65 ∷ 69 ∷ 70 ∷ 68 ∷ 72 ∷ 73 ∷ 71 ∷ 66 ∷ 67 ∷ [])
    ∷ moves deinterleave (triple 9 1 3) letters (65 ∷ 72 ∷ 73 ∷ 68 ∷ 66 ∷ 67 ∷ 71 ∷ 69 ∷ 70 ∷ [])
    ∷ inverse (triple 40 3 10) 2 (27 ∷ 10 ∷ replicate 11 0)
    ∷ reciprocal (triple 40 3 10) 27
    ∷ judged (triple 1 0 0) 1
    ∷ judged (triple 5 5 0) 2
    ∷ judged (triple 5 0 0) 3
    ∷ []
