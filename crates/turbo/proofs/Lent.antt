-- The tests of an input and of three lists, one after the other, and what they say where none applies.
use mathlib.Core.Path.{◌≡◌, refl}
use mathlib.Core.Logic.{◌≢◌, by_cases}
use mathlib.Core.List.{List, [], ◌∷◌, ◌++◌}
use Prim.Native.Nat.{ℕ, ◌+◌}
use native.Mathlib.Decide.{dec_lt}
use native.Mathlib.Omega.{arith}
use lib.ListN.{length, get_or-eq_default}
use Rattle.triples.specs.declared.Triple.{Triple}
use Rattle.refusals.specs.Refusals.{Test, First, no_block, no_bits, no_list}
use Rattle.refusals.proofs.Tests.{none, stays, goes_on}
use Rattle.refusals.proofs.Lengths.{fits, long}
use Rattle.standard.specs.Rows.{Row}
use Rattle.standard.proofs.Rows.{row_shuffle}
use Rattle.coding.specs.Streams.{block_of}
use Rattle.coding.specs.Passes.{Ready}
use Rattle.turbo.specs.Promises.{lent_tests}

module _ (k : ℕ) (input : List ℕ) (n0 n1 n2 : ℕ) where
  abbrev bit_tests : List Test
  bit_tests = no_block k (length input) ∷ no_bits input ∷ []

  abbrev room : ℕ → List Test
  room n = no_list (λ m. m ≡ k + 4) n ∷ []

  abbrev Lent : ℕ → Type 0
  Lent number = First (lent_tests k input n0 n1 n2) number

  pub by_input : {n : ℕ} → First bit_tests n → n ≢ 0 → Lent n
  by_input = stays bit_tests (room n0 ++ room n1 ++ room n2)

  module _ {n : ℕ} (input_fits : First bit_tests n) (z : n ≡ 0) where
    later : (m : ℕ) → First (room n0 ++ room n1 ++ room n2) m → Lent m
    later m = goes_on bit_tests (room n0 ++ room n1 ++ room n2) m tt input_fits z

    pub by_first : {m : ℕ} → First (room n0) m → m ≢ 0 → Lent m
    by_first {m} first ne = later m (stays (room n0) (room n1 ++ room n2) first ne)

    module _ {m : ℕ} (first : First (room n0) m) (y : m ≡ 0) where
      pub by_second : {l : ℕ} → First (room n1) l → l ≢ 0 → Lent l
      by_second {l} second ne = later l (goes_on (room n0) (room n1 ++ room n2) l tt first y (stays (room n1) (room n2) second ne))

      pub by_third : {l : ℕ} (j : ℕ) → First (room n1) l → l ≡ 0 → First (room n2) j → Lent j
      by_third j second x third = later j (goes_on (room n0) (room n1 ++ room n2) j tt first y (goes_on (room n1) (room n2) j tt second x third))

-- none applies: the pass over the block may begin
pub ready : {t : Triple} (input : List ℕ) (n0 n1 n2 : ℕ) {n : ℕ} → Row t → First (lent_tests t.k input n0 n1 n2) n → n ≡ 0 → Ready t input n0 n1 n2
ready {t} input n0 n1 n2 row first z =
    let h = none (lent_tests t.k input n0 n1 n2) tt first z in
    record {
      range = (row_shuffle row).range;
      size = fits h.0;
      bits = λ i. by_cases (dec_lt i (length input))
          (λ l. by_cases (dec_lt 1 (block_of input i)) (λ g. absurd (h.1.0 (i, l, g))) (λ g. omega arith))
          (λ l. omega (arith, get_or-eq_default input 0 {n = i} (omega arith)));
      room0 = long (t.k + 4) n0 refl h.1.1.0;
      room1 = long (t.k + 4) n1 refl h.1.1.1.0;
      room2 = long (t.k + 4) n2 refl h.1.1.1.1.0;
    }
