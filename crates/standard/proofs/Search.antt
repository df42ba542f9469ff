-- What a binary search for a length says: the row of it, or that there is none.
use mathlib.Core.Path.{◌≡◌, refl, sym, ap, ◌∙◌}
use mathlib.Core.Logic.{by_cases}
use Prim.Native.Nat.{ℕ, ◌≤◌, ◌<◌}
use native.Mathlib.Decide.{dec_lt}
use native.Mathlib.Omega.{arith}
use lib.ListN.{length, get_or}
use Rattle.std.specs.Ordering.{nat_cmp, ordering_index}
use Rattle.std.specs.List.Sorted.{IsBinarySearchResult, IsSearchInRange, IsNonDecreasingBy}
use Rattle.std.specs.Result.{result_ok}
use Rattle.std.specs.declared.result.Result.{Result}
use Rattle.std.specs.declared.result.Result.TheVariants.{Ok, Err}
use Rattle.std.specs.declared.cmp.Ordering.TheVariants.{Less, Equal, Greater}
use Rattle.std.specs.declared.option.Option.TheVariants.{Some, None}
use Rattle.std.proofs.lemmas.Option.{none-some}
use Rattle.std.proofs.lemmas.Cmp.{ranked}
use Rattle.std.proofs.lemmas.List.{get_or_default}
use Rattle.std.proofs.lemmas.Bool.Decides.{nat_tests}
use Rattle.triples.specs.declared.Triple.{Triple}
use Rattle.triples.specs.Shuffles.{triple}
use Rattle.standard.specs.Rows.{rows, row_at, Row, HasRow}
use Rattle.standard.proofs.Rows.{row_count, lengths_rise}

module _ (k : ℕ) where
  abbrev Searched : Result ℕ ℕ → Type 0
  Searched = IsBinarySearchResult (λ (t : Triple). nat_cmp t.k k) rows

  same : (o : ℕ) (d : Triple) → o < 188 → nat_cmp (get_or rows o d).k k ≡ nat_cmp (row_at o).k k
  same o d l = ap (λ (t : Triple). nat_cmp t.k k) (get_or_default rows o d (triple 0 0 0) (omega (arith, row_count)))

  rises : IsNonDecreasingBy (λ (t : Triple). ordering_index (nat_cmp t.k k)) rows
  rises i j d h l =
      let low = lengths_rise i j h (omega (arith, row_count)) in
      let a = same i d (omega (arith, row_count)) in
      let b = same j d (omega (arith, row_count)) in
      rw (a, b) (higher (row_at i).k (row_at j).k low)
    where
      higher : (m n : ℕ) → m ≤ n → ordering_index (nat_cmp m k) ≤ ordering_index (nat_cmp n k)
      higher m n l = grind (arith, nat_tests)

  pub found : (r : Result ℕ ℕ) {i : ℕ} → IsSearchInRange r (length rows) → Searched r → result_ok r ≡ Some i → Row (row_at i) × ((row_at i).k ≡ k)
  found (Ok j) {i} within h e =
      let at : j ≡ i = cc in
      (record { place = i; within = omega (arith, row_count); listed = refl }, ranked (row_at i).k k Equal (sym (h (triple 0 0 0)) ∙ ap (λ (n : ℕ). nat_cmp (row_at n).k k) at))
  found (Err j) {i} within h e = cc

  pub missed : (r : Result ℕ ℕ) → Searched r → result_ok r ≡ None → ¬ HasRow k
  missed (Ok j) h e = absurd (none-some j (sym e))
  missed (Err j) h e = λ (t, is, row).
      let point = h rises in
      let p = row.place in
      let length_is : (row_at p).k ≡ k = ap (λ (u : Triple). u.k) row.listed ∙ is in
      by_cases (dec_lt p j)
      (λ l. absurd (omega (arith, ranked (row_at p).k k Less (sym (point.0 p (triple 0 0 0) (omega arith) l)))))
      (λ l. absurd (omega (arith, ranked (row_at p).k k Greater (sym (point.1 p (triple 0 0 0) (omega arith) (omega (arith, row.within, row_count)))))))
