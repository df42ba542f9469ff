-- The pass over a block, and the tails after it.
use mathlib.Core.Path.{◌≡◌, refl, sym, ap, ◌∙◌}
use mathlib.Core.Bool.{Bool, cond}
use mathlib.Core.List.{List, [], ◌∷◌}
use Prim.Native.Nat.{ℕ, ◌+◌, ◌-◌, ◌<◌}
use native.Mathlib.Omega.{arith}
use lib.ListN.{length, get_or, set}
use borrow.Author.Tests.{lt-ltb, le-ltb}
use Rattle.numbers.specs.Lists.{Written}
use Rattle.numbers.proofs.Lists.{written_none, written_more, written_same}
use Rattle.triples.specs.declared.Triple.{Triple}
use Rattle.triples.specs.declared.striding.Stride.{Stride}
use Rattle.triples.specs.Shuffles.{f}
use Rattle.triples.specs.Strides.{At, Follows}
use Rattle.coding.specs.Streams.{block_of, shuffled, ended, Streams}
use Rattle.coding.specs.States.{Step, state_at, parity_at, Ends}
use Rattle.coding.specs.Passes.{Ready, Extended}
use Rattle.coding.specs.declared.trellis.Coded.{Coded}
use Rattle.coding.proofs.States.{coded_inside, coded_step, coding_of}

-- ---- the loop

-- the places below i are written, the others are not, and coders and addresses stand at i
pub record Pass (t : Triple) (input before0 before1 before2 d0 d1 d2 : List ℕ) (s : Stride) (first second i : ℕ) : Type 0 where
  pub at : At t i s
  pub first_is : first ≡ state_at t.k (block_of input) i
  pub second_is : second ≡ state_at t.k (shuffled (f t) input) i
  pub stream0 : Written (block_of input) i before0 d0
  pub stream1 : Written (parity_at t.k (block_of input)) i before1 d1
  pub stream2 : Written (parity_at t.k (shuffled (f t) input)) i before2 d2

module _ {t : Triple} {input : List ℕ} where
  pub pass_start : {d0 d1 d2 : List ℕ} {s : Stride} → At t 0 s → Pass t input d0 d1 d2 d0 d1 d2 s 0 0 0
  unfolding state_at
  pass_start at = record { at = at; first_is = refl; second_is = refl; stream0 = written_none; stream1 = written_none; stream2 = written_none }

  pub pass_step : {before0 before1 before2 d0 d1 d2 : List ℕ} {s s' : Stride} {first second first' second' i z z' : ℕ}
      → Ready t input (length before0) (length before1) (length before2) → Pass t input before0 before1 before2 d0 d1 d2 s first second i → i < t.k
      → Step first (block_of input i) first' z → Step second (block_of input s.address) second' z' → Follows s s'
      → Pass t input before0 before1 before2 (set d0 i (block_of input i)) (set d1 i z) (set d2 i z') s' first' second' (i + 1)
  pass_step {s = s} {i = i} {z = z} {z' = z'} r p below one two moved =
      let c = coded_step t.k (block_of input) i p.first_is (sym (coded_inside t.k (block_of input) below)) one in
      let d =
      coded_step t.k (shuffled (f t) input) i p.second_is (ap (block_of input) p.at.address ∙ sym (coded_inside t.k (shuffled (f t) input) below)) two in
      record {
        at = moved.goes t i p.at;
        first_is = c.state_is;
        second_is = d.state_is;
        stream0 = written_more (block_of input i) p.stream0 (omega (arith, r.room0, p.stream0.size)) refl;
        stream1 = written_more z p.stream1 (omega (arith, r.room1, p.stream1.size)) c.z_is;
        stream2 = written_more z' p.stream2 (omega (arith, r.room2, p.stream2.size)) d.z_is;
      }

-- ---- the tails

-- bits and then a tail
pub ended_written : {k : ℕ} {bits : ℕ → ℕ} {tail before list after : List ℕ} → Written bits k before list → Extended k tail list after
    → Written (ended k bits tail) (k + length tail) before after
ended_written {k} {bits} {tail} {before} w e =
    e.extends (ended k bits tail) before (written_same (λ i h. sym (ap (λ (b : Bool). cond b (bits i) (get_or tail (i - k) 0)) (lt-ltb i k h))) w)
    (λ j h. sym (ap (λ (b : Bool). cond b (bits (k + j)) (get_or tail (k + j - k) 0)) (le-ltb (k + j) k (omega arith)) ∙ ap (λ (n : ℕ). get_or tail n 0) {x = k + j - k} {y = j} (omega arith)))

-- ---- the three streams

abbrev pub bit : List Coded → ℕ → Coded
bit tail i = get_or tail i (record { x = 0; z = 0 })

pub streams : {t : Triple} {input before0 before1 before2 mid0 mid1 mid2 d0 d1 d2 : List ℕ} {s : Stride} {first second i : ℕ} {p q : List Coded}
    → Pass t input before0 before1 before2 mid0 mid1 mid2 s first second i → i ≡ t.k → length input ≡ t.k → Ends first p → Ends second q
    → Extended (length input) ((bit p 0).x ∷ (bit p 1).z ∷ (bit q 0).x ∷ (bit q 1).z ∷ []) mid0 d0
    → Extended (length input) ((bit p 0).z ∷ (bit p 2).x ∷ (bit q 0).z ∷ (bit q 2).x ∷ []) mid1 d1
    → Extended (length input) ((bit p 1).x ∷ (bit p 2).z ∷ (bit q 1).x ∷ (bit q 2).z ∷ []) mid2 d2
    → Streams t.k (block_of input) (shuffled (f t) input) before0 before1 before2 d0 d1 d2
unfolding coding_of
streams {t} {input} {mid0 = mid0} {mid1 = mid1} {mid2 = mid2} {d0 = d0} {d1 = d1} {d2 = d2} {i = i} pass e size ends_p ends_q tail0 tail1 tail2 =
    let k = t.k in
    let block = block_of input in
    let other = shuffled (f t) input in
    let p_is = ends_p.ends k block (pass.first_is ∙ ap (state_at k block) e) in
    let q_is = ends_q.ends k other (pass.second_is ∙ ap (state_at k other) e) in
    record {
      first = coding_of k block;
      second = coding_of k other;
      stream0 = ended_written (written_same (λ j h. sym (coded_inside k block h)) (rw e at pass.stream0)) (rw (size, p_is, q_is) at tail0);
      stream1 = ended_written (rw e at pass.stream1) (rw (size, p_is, q_is) at tail1);
      stream2 = ended_written (rw e at pass.stream2) (rw (size, p_is, q_is) at tail2);
    }
