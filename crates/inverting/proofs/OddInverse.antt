-- The series, brought inside the limits, is the answer.
use mathlib.Core.Path.{◌≡◌, sym, ap, subst, ◌∙◌}
use mathlib.Core.List.{List, ◌∷◌}
use Prim.Native.Nat.{ℕ, ◌≤◌, ◌<◌}
use native.Mathlib.Omega.{arith}
use lib.ListN.{length, drop, length-drop}
use lib.IntN.{ℤ, pos}
use lib.Seq.{drop-cons}
use Rattle.polynomials.specs.Polynomials.{coefficient, wholes}
use Rattle.polynomials.specs.Reductions.{Degree, Reduced}
use Rattle.polynomials.proofs.Differences.{positive}
use Rattle.polynomials.proofs.Naturals.{wholes_place}
use Rattle.polynomials.proofs.Inverses.{inverse_polynomial, undoes_reduced, inverted_from, inverted_same}
use Rattle.inverting.specs.Series.{Series}
use Rattle.triples.specs.declared.Triple.{Triple}
use Rattle.triples.specs.Shuffles.{f, Shuffle, odd_form}
use Rattle.polynomials.specs.Inverses.{InversePolynomial, from_first, Inverted}
use Rattle.numbers.specs.Divisors.{Coprime}
use Rattle.numbers.specs.Reciprocals.{Reciprocal}
use Rattle.numbers.proofs.Absorption.{absorbed_power}
use Rattle.acceptance.proofs.Rule.{odd_unit}
use Rattle.inverting.specs.Invertible.{Invertible}
use Rattle.inverting.proofs.SeriesInverse.{onto, undoes}

pub answer : (t : Triple) (r D : ℕ) (s g a : List ℕ) → Invertible t r → Series t.k t.f2 r s → Reduced t.k (wholes s) (wholes g) → Degree (wholes g) D
    → D ≤ 13 → length g ≡ 14 → a ≡ drop 1 g → Inverted t.k (f t) D a
answer t r D s g a given series reduced degree high long tail = inverted_from a (places g a long tail) (subst (λ (h : List ℤ). InversePolynomial t.k (f t) D h) same inverse)
  where
    places : (g a : List ℕ) → length g ≡ 14 → a ≡ drop 1 g → length a ≡ 13
    places g a l e = ap length e ∙ omega (arith, length-drop 1 g)

    free : coefficient (wholes g) 0 ≡ pos 0
    free = reduced.free (wholes_place s 0 ∙ ap pos series.free)

    inverse : InversePolynomial t.k (f t) D (wholes g)
    inverse =
        inverse_polynomial t.k (f t) given.low (onto given series) D (wholes g) high degree free
        (undoes_reduced t.k (f t) (wholes s) (wholes g) (omega (arith, given.low)) reduced (undoes given series))
        reduced.within

    same : wholes g ≡ from_first a
    same =
        ap wholes (drop-cons g 0 0 (omega arith))
        ∙ ap (λ (x : ℕ). wholes (x ∷ drop 1 g)) (ap positive (sym (wholes_place g 0) ∙ free))
        ∙ ap from_first (sym tail)

-- ---- the odd form that was made serves, and its inverse is that of the shuffle

-- what its reciprocal asks
pub unit_given : {t o : Triple} → Shuffle t → o ≡ odd_form t → (1 < o.k) × (o.k ≤ 8192) × (o.f1 < o.k) × Coprime o.f1 o.k
unit_given s e = let u = odd_unit s e in (u.range.low, u.range.high, u.range.first, u.coprime)

pub invertible : {t o : Triple} {r : ℕ} → Shuffle t → o ≡ odd_form t → Reciprocal o.k o.f1 r → Invertible o r
invertible {t} {o} s e reciprocal =
    let u = odd_unit s e in
    record {
      low = u.range.low;
      high = u.range.high;
      second = u.range.second;
      reciprocal = reciprocal;
      absorbed = absorbed_power 13 o.k o.f2 (omega (arith, u.range.low)) u.range.high u.absorbed;
    }

pub inverted_odd : {t o : Triple} {D : ℕ} {a : List ℕ} → Shuffle t → o ≡ odd_form t → Inverted o.k (f o) D a → Inverted t.k (f t) D a
inverted_odd {t} {o} {D} {a} s e h =
    let u = odd_unit s e in
    inverted_same (f o) (f t) (λ x _. u.same x) (subst (λ (k : ℕ). Inverted k (f o) D a) u.length h)
