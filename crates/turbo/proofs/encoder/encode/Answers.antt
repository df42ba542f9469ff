-- The row is that of the length, and where no test applies the pass over the block may begin.
use mathlib.Core.Path.{refl, sym, subst}
use Prim.Native.Nat.{ℕ}
use lib.ListN.{length}
use Rattle.triples.specs.Shuffles.{triple}
use Rattle.refusals.specs.Refusals.{First}
use Rattle.standard.specs.Rows.{Row}
use Rattle.standard.proofs.Rows.{row_length}
use Rattle.turbo.specs.Promises.{lent_tests}
use Rattle.turbo.proofs.Lent.{ready}
use Rattle.turbo.proofs.encoder.encode.Goals as goal

pub lendable-requires : goal.lendable-requires
lendable-requires c = (row_length (c.in_ok-shuffle.ensures.coefficients.done refl)).1

pub encode-requires : goal.encode-requires
encode-requires c =
    let a = c.args in
    let s = c.in_ok-shuffle.shuffle in
    let same = sym c.in_ok-shuffle.ensures.length in
    ready {t = s} a.input.now (length a.d0.now) (length a.d1.now) (length a.d2.now)
    (subst (λ (k : ℕ). Row (triple k s.f1 s.f2)) same (c.in_ok-shuffle.ensures.coefficients.done refl))
    (subst (λ (k : ℕ). First (lent_tests k a.input.now (length a.d0.now) (length a.d1.now) (length a.d2.now)) 0) same c.in_ok-lendable.ensures)
    refl
