-- Laws of the three streams: what they hold, and that no others fit a block and its shuffle.
use mathlib.Core.Path.{◌≡◌, ap, ◌∙◌}
use mathlib.Core.Bool.{Bool, cond}
use mathlib.Core.List.{List, [], ◌∷◌}
use Prim.Native.Nat.{ℕ, ◌+◌, ◌-◌, ◌<◌}
use native.Mathlib.Omega.{arith}
use lib.Dec.{ltb}
use lib.ListN.{get_or}
use borrow.Author.Tests.{lt-ltb}
use Rattle.numbers.specs.Lists.{Written}
use Rattle.numbers.proofs.Lists.{written_one, written_same}
use Rattle.coding.specs.Streams.{ended, Streams}
use Rattle.coding.proofs.Coders.{same_x, same_z}

-- the same bits and the same tail make the same list
ended_one : (k : ℕ) {n : ℕ} {bits bits' : ℕ → ℕ} {tail tail' before a b : List ℕ} → ((i : ℕ) → bits i ≡ bits' i) → tail ≡ tail'
    → Written (ended k bits tail) n before a → Written (ended k bits' tail') n before b → a ≡ b
ended_one k same e p q = written_one (written_same (λ i _. (λ j. cond (ltb i k) (same i j) (get_or (e j) (i - k) 0))) p) q

-- what stands before a tail
bits_then : (k : ℕ) (bits : ℕ → ℕ) (tail : List ℕ) {before after : List ℕ} → Written (ended k bits tail) (k + 4) before after → (i : ℕ) → i < k
    → get_or after i 0 ≡ bits i
bits_then k bits tail w i l = w.entries i (omega arith) ∙ ap (λ (b : Bool). cond b (bits i) (get_or tail (i - k) 0)) (lt-ltb i k l)

module _ {k : ℕ} {block shuffled : ℕ → ℕ} {before0 before1 before2 d0 d1 d2 : List ℕ} (s : Streams k block shuffled before0 before1 before2 d0 d1 d2) where
  pub first_parity : (i : ℕ) → i < k → get_or d1 i 0 ≡ s.first.z i
  first_parity =
      let x = s.first.x in
      let z = s.first.z in
      bits_then k z (z k ∷ x (k + 2) ∷ s.second.z k ∷ s.second.x (k + 2) ∷ []) s.stream1

  pub second_parity : (i : ℕ) → i < k → get_or d2 i 0 ≡ s.second.z i
  second_parity =
      let x = s.second.x in
      let z = s.second.z in
      bits_then k z (s.first.x (k + 1) ∷ s.first.z (k + 2) ∷ x (k + 1) ∷ z (k + 2) ∷ []) s.stream2

pub streams_one : {k : ℕ} {block block' shuffled shuffled' : ℕ → ℕ} {before0 before1 before2 d0 d1 d2 e0 e1 e2 : List ℕ}
    → ((i : ℕ) → i < k → block i ≡ block' i) → ((i : ℕ) → i < k → shuffled i ≡ shuffled' i) → Streams k block shuffled before0 before1 before2 d0 d1 d2
    → Streams k block' shuffled' before0 before1 before2 e0 e1 e2 → (d0 ≡ e0) × (d1 ≡ e1) × (d2 ≡ e2)
streams_one {k} alike alike' s r =
    let x = same_x alike s.first r.first in
    let z = same_z alike s.first r.first in
    let x' = same_x alike' s.second r.second in
    let z' = same_z alike' s.second r.second in (
      ended_one k x (λ j. x k j ∷ z (k + 1) j ∷ x' k j ∷ z' (k + 1) j ∷ []) s.stream0 r.stream0,
      ended_one k z (λ j. z k j ∷ x (k + 2) j ∷ z' k j ∷ x' (k + 2) j ∷ []) s.stream1 r.stream1,
      ended_one k z' (λ j. x (k + 1) j ∷ z (k + 2) j ∷ x' (k + 1) j ∷ z' (k + 2) j ∷ []) s.stream2 r.stream2,
    )
