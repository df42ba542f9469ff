-- The answer rests on one computed test: each number of the table is the coefficient that `rising` computes.
use mathlib.Core.Path.{subst}
use mathlib.Core.Bool.{Bool}
use mathlib.Core.List.{List}
use Prim.Native.Nat.{ℕ, ◌+◌, ◌-◌, ◌*◌, ◌/◌}
use native.Mathlib.Omega.{arith}
use lib.Dec.{T, eqb, eqb→eq}
use lib.ListN.{get_or}
use Rattle.numbers.proofs.Computation.{every, passes}
use Rattle.polynomials.specs.RisingProducts.{rising, times_linear, Rows}
use Rattle.polynomials.specs.declared.products.TheConstants.{ROWS}
use Rattle.polynomials.proofs.products.rising.Goals as goal

right : List ℕ → ℕ → ℕ → Bool
right rows n j = eqb (get_or rows ((n - 1) * (n - 2) / 2 + j - 1) 0) (get_or (rising n) j 0)

rule : {rows : List ℕ} → T (every 14 (λ (n : ℕ). every (n - 1) (λ (i : ℕ). right rows n (i + 1)))) → Rows rows
unfolding right
rule {rows} test = record {
  place = λ n j low high top.
      eqb→eq (get_or rows ((n - 1) * (n - 2) / 2 + j - 1) 0) (get_or (rising n) j 0)
      (subst (λ (i : ℕ). T (right rows n i)) (omega arith)
      (passes (n - 1) (λ (i : ℕ). right rows n (i + 1)) (passes 14 (λ (n : ℕ). every (n - 1) (λ (i : ℕ). right rows n (i + 1))) test n (omega arith)) (j - 1) (omega arith)));
}

pub returns : goal.returns
unfolding right rising times_linear
returns c = let rows : Rows ROWS = rule tt in rows.place c.args.n c.args.j (omega arith) (omega arith) (omega arith)
