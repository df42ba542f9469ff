-- The claim: every case of the list holds.
use mathlib.Core.Path.{◌≡◌, refl}
use mathlib.Core.Logic.{inr}
use mathlib.Core.List.{List, [], ◌∷◌, ◌++◌}
use Prim.Native.Nat.{ℕ, ◌<◌}
use native.Mathlib.Nat.{dvd_refl}
use native.Mathlib.Omega.{arith}
use lib.Dec.{T, eqb}
use lib.ListN.{length, get_or, replicate, length-append}
use Rattle.numbers.proofs.Computation.{every, same_below}
use Rattle.permuting.specs.Blocks.{Direction, interleave, deinterleave, marks_of, MovedBlock}
use Rattle.permuting.proofs.Scratch.{cleared_front}
use Rattle.polynomials.proofs.Instances.{inverse_test, inverted_by_test}
use Rattle.triples.specs.declared.Triple.{Triple}
use Rattle.triples.specs.Shuffles.{triple, f, quadratic}
use Rattle.numbers.proofs.Lists.{written_front}
use Rattle.arp_forms.specs.Arp.{shift, Period}
use Rattle.arp_forms.proofs.Periods.{period_double}
use Rattle.arp_forms.proofs.ArpForms.{arp_form, period_one}
use Rattle.refusals.specs.Refusals.{Acceptance}
use Rattle.refusals.proofs.Answers.{answer_late}
use Rattle.refusals.proofs.Acceptance.{accepted}
use Rattle.qpp.specs.Promises.{Moves, ArpOf, InverseOf}
use Rattle.cases.specs.Cases.{All, cases, letters}
use Rattle.cases.proofs.Trials.{judge, judged_as}

listed : (t : Triple) (list : List ℕ) → length list ≡ t.k → T (every t.k (λ x. eqb (get_or list x 0) (f t x)))
    → (length list ≡ t.k) × ((x : ℕ) → x < t.k → get_or list x 0 ≡ f t x)
listed t list size e = (size, same_below t.k (λ x. get_or list x 0) (f t) e)

-- ---- a block is moved, with any scratch that is long enough

module _ (t : Triple) (judged : T (eqb (judge t) 0)) (before after : List ℕ) (size : length after ≡ length before) (fits : length before ≡ t.k) where
  moved : (w : Direction) (marks rest : List ℕ) → length marks ≡ marks_of t.k
      → MovedBlock w t.k (f t) 0 before after (marks ++ rest) (replicate (marks_of t.k) 0 ++ rest)
      → Moves w (quadratic t) 0 before (marks ++ rest) 0 after (replicate (marks_of t.k) 0 ++ rest)
  moved w marks rest enough done =
      answer_late tt (judged_as t 0 judged) refl (inr ((λ ne. ne fits), inr ((λ short. omega (arith, simp length-append at short)), refl))) refl done

  interleaved : T (every (length before) (λ i. eqb (get_or after i 0) (get_or before (f t i) 0))) → (marks rest : List ℕ) → length marks ≡ marks_of t.k
      → Moves interleave (quadratic t) 0 before (marks ++ rest) 0 after (replicate (marks_of t.k) 0 ++ rest)
  interleaved e marks rest enough =
      moved interleave marks rest enough (record {
        block = record { size = size; holds = same_below (length before) (λ i. get_or after i 0) (λ i. get_or before (f t i) 0) e };
        scratch = cleared_front marks rest enough;
      })

  deinterleaved : T (every (length before) (λ i. eqb (get_or after (f t i) 0) (get_or before i 0))) → (marks rest : List ℕ) → length marks ≡ marks_of t.k
      → Moves deinterleave (quadratic t) 0 before (marks ++ rest) 0 after (replicate (marks_of t.k) 0 ++ rest)
  deinterleaved e marks rest enough =
      moved deinterleave marks rest enough (record {
        block = record { size = size; holds = same_below (length before) (λ i. get_or after (f t i) 0) (λ i. get_or before i 0) e };
        scratch = cleared_front marks rest enough;
      })

-- ---- an inverse

inverts : (t : Triple) (degree : ℕ) (a : List ℕ) → T (eqb (judge t) 0) → length a ≡ 13 → T (inverse_test t.k (f t) degree (0 ∷ a))
    → InverseOf t (record { number = 0; degree = degree; a = a })
inverts t degree a judged places e = answer_late tt (judged_as t 0 judged) refl refl refl (inverted_by_test t.k (f t) degree a places e)

-- ---- an ARP form

-- K is gcd(K, 2·f2), so that 1 is the first candidate; it fails, and its double is the period
arp_8 : (room rest : List ℕ) → length room ≡ 2 → ArpOf (triple 8 1 4) (room ++ rest) (record { number = 0; p = 1; q = 2 }) ((0 ∷ 4 ∷ []) ++ rest)
arp_8 room rest e =
    answer_late tt judged refl (inr ((λ short. omega (arith, short.2, period_one short.1 period, length-append room rest)), refl)) refl
    (arp_form (accepted judged refl) (record { first = refl; period = period }) refl
    (written_front (shift (triple 8 1 4)) 2 room (0 ∷ 4 ∷ []) rest e refl (same_below 2 (λ j. get_or (0 ∷ 4 ∷ []) j 0) (shift (triple 8 1 4)) tt)))
  where
    judged : Acceptance (quadratic (triple 8 1 4)) 0
    judged = judged_as (triple 8 1 4) 0 tt

    period : Period (triple 8 1 4) 2
    period = period_double (triple 8 1 4) 8 1 (omega arith) (record { left = dvd_refl 8; right = dvd_refl 8; greatest = λ d p q. p }) refl (λ e. omega arith) (λ e. omega arith)

infixr 4 ◌&◌
◌&◌ : {A B : Type 0} → A → B → A × B
a & b = (a, b)

pub cases_hold : All cases
cases_hold =
    judged_as (triple 2 0 1) 0 tt
    & inverts (triple 2 0 1) 1 (1 ∷ replicate 12 0) tt refl tt
    & judged_as (triple 2 1 1) 3 tt
    & judged_as (triple 3 1 1) 3 tt
    & listed (triple 3 1 1) (0 ∷ 2 ∷ 0 ∷ []) refl tt
    & judged_as (triple 4 1 2) 0 tt
    & listed (triple 4 1 2) (0 ∷ 3 ∷ 2 ∷ 1 ∷ []) refl tt
    & inverts (triple 4 1 2) 1 (3 ∷ replicate 12 0) tt refl tt
    & judged_as (triple 4 1 1) 3 tt
    & judged_as (triple 6 2 3) 0 tt
    & listed (triple 6 2 3) (0 ∷ 5 ∷ 4 ∷ 3 ∷ 2 ∷ 1 ∷ []) refl tt
    & inverts (triple 6 2 3) 1 (5 ∷ replicate 12 0) tt refl tt
    & interleaved (triple 6 2 3) tt (65 ∷ 66 ∷ 67 ∷ 68 ∷ 69 ∷ 70 ∷ []) (65 ∷ 70 ∷ 69 ∷ 68 ∷ 67 ∷ 66 ∷ []) refl refl tt
    & judged_as (triple 8 1 4) 0 tt
    & inverts (triple 8 1 4) 1 (5 ∷ replicate 12 0) tt refl tt
    & arp_8
    & judged_as (triple 9 1 3) 0 tt
    & inverts (triple 9 1 3) 2 (1 ∷ 6 ∷ replicate 11 0) tt refl tt
    & interleaved (triple 9 1 3) tt letters (65 ∷ 69 ∷ 70 ∷ 68 ∷ 72 ∷ 73 ∷ 71 ∷ 66 ∷ 67 ∷ []) refl refl tt
    & deinterleaved (triple 9 1 3) tt letters (65 ∷ 72 ∷ 73 ∷ 68 ∷ 66 ∷ 67 ∷ 71 ∷ 69 ∷ 70 ∷ []) refl refl tt
    & inverts (triple 40 3 10) 2 (27 ∷ 10 ∷ replicate 11 0) tt refl tt
    & answer_late tt (judged_as (triple 40 3 10) 0 tt) refl refl refl (record { below = omega arith; product = refl })
    & judged_as (triple 1 0 0) 1 tt
    & judged_as (triple 5 5 0) 2 tt
    & judged_as (triple 5 0 0) 3 tt
    & tt
