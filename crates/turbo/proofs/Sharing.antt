-- The second coder codes the block as the interleaver moves it.
use mathlib.Core.Path.{◌≡◌, refl, sym, subst, ◌∙◌}
use mathlib.Core.List.{List}
use Prim.Native.Nat.{ℕ, ◌<◌}
use native.Mathlib.Omega.{arith}
use lib.ListN.{length, get_or}
use Rattle.permuting.specs.Permutations.{Interleaved}
use Rattle.permuting.specs.Blocks.{interleave}
use Rattle.triples.specs.declared.Triple.{Triple}
use Rattle.triples.specs.Shuffles.{triple, f, quadratic}
use Rattle.refusals.proofs.Tests.{none, splits}
use Rattle.refusals.proofs.Lengths.{fits}
use Rattle.standard.proofs.Rows.{row_one}
use Rattle.coding.specs.Coders.{Coding}
use Rattle.coding.specs.Streams.{block_of}
use Rattle.coding.proofs.Coders.{same_z}
use Rattle.coding.proofs.Streams.{first_parity, second_parity}
use Rattle.qpp.specs.Promises.{Moves}
use Rattle.turbo.specs.Promises.{row_tests, lent_tests, RowOf, Encoded, Encodes}
use Rattle.turbo.specs.declared.lengths.Row as declared

module _ {k : ℕ} {input before0 before1 before2 d0 d1 d2 : List ℕ} where
  -- an answered call was lent an input of K bits
  encoded_size : Encodes k input before0 before1 before2 0 d0 d1 d2 → length input ≡ k
  encoded_size a =
      let own = lent_tests k input (length before0) (length before1) (length before2) in
      fits (none own tt (splits (row_tests k) own tt a.first refl) refl).0

  -- the third stream is the parity of the interleaved block, coded plainly
  pub third_stream : (e : Encoded k input before0 before1 before2 d0 d1 d2) {shuffled : List ℕ} → length input ≡ k → Interleaved 0 (f e.row) input shuffled
      → (plain : Coding k (block_of shuffled)) (i : ℕ) → i < k → get_or d2 i 0 ≡ plain.z i
  third_stream e size moved plain i l =
      second_parity e.streams i l ∙ same_z (λ j h. sym (moved.holds j (omega arith))) e.streams.second plain i

  -- so that interleaving by the library and encoding what comes of it gives, as its second stream, the third
  pub third_by_interleaving : {r : declared.Row} {scratch scratch' shuffled before3 before4 before5 e0 e1 e2 : List ℕ}
      → Encodes k input before0 before1 before2 0 d0 d1 d2 → RowOf k r → r.number ≡ 0
      → Moves interleave (quadratic (triple k r.f1 r.f2)) 0 input scratch 0 shuffled scratch'
      → Encodes k shuffled before3 before4 before5 0 e0 e1 e2 → (i : ℕ) → i < k → get_or d2 i 0 ≡ get_or e1 i 0
  third_by_interleaving {r} {shuffled = shuffled} a row z moves b i l =
      let e = a.done refl in
      let same : triple k r.f1 r.f2 ≡ e.row = row_one (row.done z) e.listed (sym e.length_is) in
      let moved = subst (λ (t : Triple). Interleaved 0 (f t) input shuffled) same (moves.done refl).block in
      let plain = (b.done refl).streams in
      third_stream e (encoded_size a) moved plain.first i l ∙ sym (first_parity plain i l)
