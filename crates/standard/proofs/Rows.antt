-- Laws of the rows, from two tests that are computed over all of them: each row is accepted, and the lengths ascend, so that a row is the
-- only one of its length.
use mathlib.Core.Path.{◌≡◌, refl, sym, ap, subst, ◌∙◌}
use Prim.Native.Nat.{ℕ, ◌≤◌, ◌<◌}
use native.Mathlib.Omega.{arith}
use lib.Dec.{T}
use lib.ListN.{length}
use Rattle.numbers.proofs.Computation.{every, passes}
use Rattle.triples.specs.declared.Triple.{Triple}
use Rattle.triples.specs.Shuffles.{quadratic, Shuffle}
use Rattle.refusals.specs.Refusals.{Acceptance, shuffle_tests}
use Rattle.refusals.proofs.Tests.{none_first}
use Rattle.refusals.proofs.Acceptance.{none_shuffle}
use Rattle.standard.specs.Rows.{rows, row_at, Row}
use Rattle.standard.proofs.QuickTest.{quick, quick_shuffle}
use Rattle.standard.proofs.Ascent.{ascending, rises, ascending_one, ascending_within}

-- what holds of row i, for each i, holds of every row
each : (P : Triple → Type 0) → ((i : ℕ) → i < 188 → P (row_at i)) → {t : Triple} → Row t → P t
each P holds r = subst P r.listed (holds r.place r.within)

-- the list has no further row
pub row_count : length rows ≡ 188
unfolding rows
row_count = refl

-- ---- every row is accepted

all_quick : T (every 188 (λ i. quick (row_at i)))
unfolding rows
all_quick = tt

pub row_shuffle : {t : Triple} → Row t → Shuffle t
row_shuffle = each Shuffle (λ i l. quick_shuffle (row_at i) (passes 188 (λ i. quick (row_at i)) all_quick i l))

pub row_accepted : {t : Triple} → Row t → Acceptance (quadratic t) 0
row_accepted {t} r = none_first (shuffle_tests (quadratic t)) (none_shuffle (row_shuffle r)) refl

-- ---- the lengths ascend

abbrev length_at : ℕ → ℕ
length_at i = (row_at i).k

all_ascend : T (ascending 187 length_at)
unfolding rows
all_ascend = tt

pub lengths_rise : (i j : ℕ) → i ≤ j → j < 188 → (row_at i).k ≤ (row_at j).k
lengths_rise i j h l = omega (arith, rises 187 length_at all_ascend i j h (omega arith))

pub row_one : {t u : Triple} → Row t → Row u → t.k ≡ u.k → t ≡ u
row_one {t} {u} r s e = sym r.listed ∙ ap row_at place ∙ s.listed
  where
    same : length_at r.place ≡ length_at s.place
    same = ap (λ (w : Triple). w.k) r.listed ∙ e ∙ ap (λ (w : Triple). w.k) (sym s.listed)

    place : r.place ≡ s.place
    place = ascending_one 187 length_at all_ascend r.place s.place (omega (arith, r.within)) (omega (arith, s.within)) same

pub row_length : {t : Triple} → Row t → (40 ≤ t.k) × (t.k ≤ 6144)
unfolding rows
row_length = each (λ (t : Triple). (40 ≤ t.k) × (t.k ≤ 6144)) (λ i l. ascending_within 187 length_at all_ascend i (omega arith))
