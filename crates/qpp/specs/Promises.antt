-- To be believed: what each call promises, on every input. Where a formula of any kind has the call, the promise is said of it.
use Rattle.std.specs.Prelude.{◌≡◌, List, [], ◌∷◌, ℕ, ◌%◌, length, replicate}
use Rattle.numbers.specs.Reciprocals.{Reciprocal}
use Rattle.permuting.specs.Formulas.{Formula}
use Rattle.permuting.specs.Blocks.{Direction, marks_of, MovedBlock}
use Rattle.triples.specs.declared.Triple.{Triple}
use Rattle.triples.specs.Shuffles.{f, quadratic, odd_form}
use Rattle.numbers.specs.Lists.{Written}
use Rattle.polynomials.specs.Inverses.{Inverted}
use Rattle.arp_forms.specs.Arp.{Period, Arp}
use Rattle.spreading.specs.Spreads.{Spread}
use Rattle.explaining.specs.Reasons.{FirstCollision, LeastFailing}
use Rattle.refusals.specs.Refusals.{Answer, range_tests, shuffle_tests, block_tests, no_list, nothing_to_explain}
use Rattle.qpp.specs.declared.answers.Value.{Value}
use Rattle.qpp.specs.declared.answers.InverseForm.{InverseForm}
use Rattle.qpp.specs.declared.answers.ArpForm.{ArpForm}
use Rattle.qpp.specs.declared.answers.Reason.{Reason}

-- The address of a position from the running counter: that of its remainder by K.
abbrev pub Address : Formula → ℕ → Value → Type 0
Address φ x r = Answer (shuffle_tests φ) [] r.number (r.value ≡ φ.map (x % φ.length)) (r.value ≡ 0)

-- The address list: the number, and the list after the call.
abbrev pub AddressList : Formula → List ℕ → ℕ → List ℕ → Type 0
AddressList φ before number after =
    Answer (shuffle_tests φ) (no_list (λ n. n ≡ φ.length) (length before) ∷ []) number (Written φ.map φ.length before after) (after ≡ before)

-- The spread.
abbrev pub SpreadOf : Formula → Value → Type 0
SpreadOf φ r = Answer (shuffle_tests φ) [] r.number (Spread φ.map φ.length r.value) (r.value ≡ 0)

-- A block is moved, interleaved or deinterleaved: the number, and the block and the scratch after the call; a refused call leaves both as
-- they came. (d is only what `get_or` answers past a list's end.)
abbrev pub Moves : Direction → Formula → {A : Type 0} → A → List A → List ℕ → ℕ → List A → List ℕ → Type 0
Moves w φ d block scratch number block' scratch' =
    Answer (shuffle_tests φ) (block_tests φ.length (marks_of φ.length) (length block) (length scratch)) number
    (MovedBlock w φ.length φ.map d block block' scratch scratch')
    ((block' ≡ block) × (scratch' ≡ scratch))

-- ---- of triples alone

-- The reciprocal of f1, with f1 of the odd form.
abbrev pub ReciprocalOf : Triple → Value → Type 0
ReciprocalOf t r = Answer (shuffle_tests (quadratic t)) [] r.number (Reciprocal t.k (odd_form t).f1 r.value) (r.value ≡ 0)

-- The ARP form: the number, P and Q, and the list after the call.
abbrev pub ArpOf : Triple → List ℕ → ArpForm → List ℕ → Type 0
ArpOf t before r after =
    Answer (shuffle_tests (quadratic t)) (no_list (Period (odd_form t)) (length before) ∷ []) r.number (Arp t r.p r.q before after)
    ((r.p ≡ 0) × (r.q ≡ 0) × (after ≡ before))

-- The inverse polynomial.
abbrev pub InverseOf : Triple → InverseForm → Type 0
InverseOf t r =
    Answer (shuffle_tests (quadratic t)) [] r.number (Inverted t.k (f t) r.degree r.a) ((r.degree ≡ 0) × (r.a ≡ replicate 13 0))

-- The explanation of a triple in range that is refused: two positions that share an address, and a prime of K.
abbrev pub ReasonOf : Triple → Reason → Type 0
ReasonOf t r =
    Answer (range_tests (quadratic t)) (nothing_to_explain (quadratic t) ∷ []) r.number
    (FirstCollision (quadratic t) r.y r.x r.address × LeastFailing t r.prime)
    ((r.y ≡ 0) × (r.x ≡ 0) × (r.address ≡ 0) × (r.prime ≡ 0))
