-- A coder as a state that moves on: its table, and that it is the coder of the polynomials.
use mathlib.Core.Path.{◌≡◌, refl, sym, ap, ap₂, ◌∙◌}
use mathlib.Core.Bool.{Bool, cond, ◌&&◌}
use mathlib.Core.List.{List, [], ◌∷◌}
use Prim.Native.Nat.{ℕ, zero, suc, ◌+◌, ◌*◌, ◌-◌, ◌/◌, ◌%◌, ◌≤◌, ◌<◌}
use native.Mathlib.Omega.{arith}
use lib.Dec.{T, eqb, eqb→eq}
use lib.ListN.{length, get_or, drop}
use borrow.Rule.Slice.PartMut.{mid_of}
use borrow.Author.Tests.{lt-ltb, le-ltb}
use Rattle.std.proofs.lemmas.List.{get_or-take, get_or-drop}
use Rattle.numbers.proofs.Computation.{both_parts, every, passes}
use Rattle.coding.specs.Coders.{delayed, output, earlier, feedback, fed_back, Coding}
use Rattle.coding.specs.States.{drawn, cells, fed, entering, next, parity, entry, Table, Step, state_at, coded_at, parity_at, both_at, Ends}
use Rattle.coding.specs.declared.trellis.Coded.{Coded}

-- ---- the table

abbrev pub follows : (ℕ → ℕ → ℕ × ℕ) → ℕ → Bool
follows read i = eqb (read (i / 2) (i % 2)).0 (next (i / 2) (i % 2)) && eqb (read (i / 2) (i % 2)).1 (parity (i / 2) (i % 2))

-- one test over all sixteen entries, however a table is read, and every entry follows the polynomials
pub followed : (read : ℕ → ℕ → ℕ × ℕ) → T (every 16 (follows read)) → (state bit : ℕ) → state < 8 → bit < 2
    → ((read state bit).0 ≡ next state bit) × ((read state bit).1 ≡ parity state bit)
followed read test state bit l m =
    let i = 2 * state + bit in
    let s : i / 2 ≡ state = omega arith in
    let b : i % 2 ≡ bit = omega arith in
    let here : T (follows read i) = passes 16 (follows read) test i (omega arith) in
    let (n, p) = both_parts (eqb (read state bit).0 (next state bit)) (eqb (read state bit).1 (parity state bit)) (rw (s, b) at here) in
    (eqb→eq (read state bit).0 (next state bit) n, eqb→eq (read state bit).1 (parity state bit) p)

pub tabled : {table : List (ℕ × ℕ)} → length table ≡ 16 → T (every 16 (follows (entry table))) → Table table
tabled {table} size test =
    record { size = size; nexts = λ s b l m. (followed (entry table) test s b l m).0; parities = λ s b l m. (followed (entry table) test s b l m).1 }

-- from the entry of the bit on, every second one is of the bit
pub entry_from : (table : List (ℕ × ℕ)) (state bit : ℕ) → state < 8 → bit < 2 → get_or (mid_of bit (16 - bit) table) (2 * state) (0, 0) ≡ entry table state bit
entry_from table state bit l m =
    get_or-take (16 - bit) (drop bit table) (2 * state) (0, 0) (omega arith) ∙ get_or-drop bit table (2 * state) (0, 0)
    ∙ ap (λ (i : ℕ). get_or table i (0, 0)) {x = bit + 2 * state} {y = 2 * state + bit} (omega arith)

pub next_lt : (state bit : ℕ) → state < 8 → next state bit < 8
next_lt state bit s = omega arith

-- ---- the states

-- the cells of three bits
bits : (e : ℕ) {s a b c : ℕ} → s ≡ 4 * a + 2 * b + c → a < 2 → b < 2 → c < 2 → cells e s ≡ e ∷ a ∷ b ∷ c ∷ []
bits e {s} {a} {b} {c} h p q r =
    let newest : s / 4 ≡ a = omega arith in
    let middle : s / 2 % 2 ≡ b = omega arith in
    let oldest : s % 2 ≡ c = omega arith in
    λ i. e ∷ newest i ∷ middle i ∷ oldest i ∷ []

module _ (k : ℕ) (block : ℕ → ℕ) where
  pub coded_inside : {n : ℕ} → n < k → coded_at k block n ≡ block n
  coded_inside {n} h = ap (λ (b : Bool). cond b (block n) (fed (state_at k block n))) (lt-ltb n k h)

  pub coded_after : {n : ℕ} → k ≤ n → coded_at k block n ≡ fed (state_at k block n)
  coded_after {n} h = ap (λ (b : Bool). cond b (block n) (fed (state_at k block n))) (le-ltb n k h)

  pub state_lt : (n : ℕ) → state_at k block n < 8
  unfolding state_at
  state_lt zero = omega arith
  state_lt (suc n) = next_lt (state_at k block n) _ (state_lt n)

  pub state_next : (n : ℕ) → state_at k block (n + 1) ≡ next (state_at k block n) (coded_at k block n)
  unfolding state_at
  state_next n = ap (state_at k block) {x = n + 1} {y = suc n} (omega arith)

  -- ---- and they are those of the polynomials

  abbrev w : ℕ → ℕ
  w n = entering (state_at k block n) (coded_at k block n)

  -- the state is the three bits that entered last
  record Held (n : ℕ) : Type 0 where
    is : state_at k block n ≡ 4 * delayed w n + 2 * delayed (delayed w) n + delayed (delayed (delayed w)) n
    newest : delayed w n < 2
    middle : delayed (delayed w) n < 2
    oldest : delayed (delayed (delayed w)) n < 2

  held : (n : ℕ) → Held n
  unfolding state_at
  held zero = record { is = refl; newest = omega arith; middle = omega arith; oldest = omega arith }
  held (suc n) =
      let h = held n in
      record { is = omega (arith, h.is, h.newest, h.middle, h.oldest); newest = omega arith; middle = h.newest; oldest = h.middle }

  pub cells_are : (e n : ℕ) → cells e (state_at k block n) ≡ e ∷ delayed w n ∷ delayed (delayed w) n ∷ delayed (delayed (delayed w)) n ∷ []
  cells_are e n = let h = held n in bits e h.is h.newest h.middle h.oldest

  pub fed_is : (n : ℕ) → fed (state_at k block n) ≡ fed_back w n
  fed_is n = ap (λ (bits : List ℕ). drawn (earlier feedback) bits % 2) (cells_are 0 n) ∙ ap (λ (m : ℕ). m % 2) (omega arith)

  unfoldable pub coding_of : Coding k block
  coding_of =
      record {
        x = coded_at k block;
        w = w;
        z = parity_at k block;
        inside = λ n h. coded_inside h;
        after = λ n h. coded_after h ∙ fed_is n;
        enters = λ n. ap (λ (b : ℕ). (coded_at k block n + b) % 2) (fed_is n);
        given = λ n. ap (λ (bits : List ℕ). drawn output bits % 2) (cells_are (w n) n);
      }

  -- ---- what is left after the block

  -- what is fed back leaves a zero in its place
  pub state_after : {n : ℕ} → k ≤ n → state_at k block (n + 1) ≡ state_at k block n / 2
  state_after {n} h =
      let s = state_at k block n in
      state_next n ∙ ap (next s) (coded_after h) ∙ emptied s
    where
      emptied : (s : ℕ) → next s (fed s) ≡ s / 2
      emptied s = omega arith

  -- so that three steps later the coder is in state 0
  pub state_ends : state_at k block (k + 3) ≡ 0
  state_ends =
      let a : state_at k block (k + 1) ≡ state_at k block k / 2 = state_after {n = k} (omega arith) in
      let b : state_at k block (k + 1 + 1) ≡ state_at k block (k + 1) / 2 = state_after {n = k + 1} (omega arith) in
      let c : state_at k block (k + 1 + 1 + 1) ≡ state_at k block (k + 1 + 1) / 2 = state_after {n = k + 1 + 1} (omega arith) in
      ap (state_at k block) {x = k + 3} {y = k + 1 + 1 + 1} (omega arith) ∙ omega (arith, a, b, c, state_lt k)

-- a bit was coded at time n
pub record CodedAt (k : ℕ) (block : ℕ → ℕ) (n x after z : ℕ) : Type 0 where
  pub x_is : x ≡ coded_at k block n
  pub z_is : z ≡ parity_at k block n
  pub state_is : after ≡ state_at k block (n + 1)

pub coded_step : (k : ℕ) (block : ℕ → ℕ) (n : ℕ) {s x after z : ℕ} → s ≡ state_at k block n → x ≡ coded_at k block n → Step s x after z
    → CodedAt k block n x after z
coded_step k block n es ex step =
    record {
      x_is = ex;
      z_is = step.parity_is ∙ ap₂ parity es ex;
      state_is = step.state_is ∙ ap₂ next es ex ∙ sym (state_next k block n);
    }

-- after the block, what is fed back is coded
coded_back : (k : ℕ) (block : ℕ → ℕ) (n : ℕ) {s after : ℕ} {r : Coded} → k ≤ n → s ≡ state_at k block n → Step s r.x after r.z → r.x ≡ fed s
    → (r ≡ both_at k block n) × (after ≡ state_at k block (n + 1))
coded_back k block n h e step x =
    let c = coded_step k block n e (x ∙ ap fed e ∙ sym (coded_after k block h)) step in
    (λ i. record { x = c.x_is i; z = c.z_is i }, c.state_is)

pub ends_by : {s s1 s2 s3 : ℕ} {a b c : Coded} → Step s a.x s1 a.z × (a.x ≡ fed s) → Step s1 b.x s2 b.z × (b.x ≡ fed s1) → Step s2 c.x s3 c.z × (c.x ≡ fed s2)
    → Ends s (a ∷ b ∷ c ∷ [])
ends_by {s} {s2 = s2} {a = a} {b = b} {c = c} one two three = record { ends = ends }
  where
    ends : (k : ℕ) (block : ℕ → ℕ) → s ≡ state_at k block k → a ∷ b ∷ c ∷ [] ≡ both_at k block k ∷ both_at k block (k + 1) ∷ both_at k block (k + 2) ∷ []
    ends k block e =
        let first = coded_back k block k (omega arith) e one.0 one.1 in
        let second = coded_back k block (k + 1) (omega arith) first.1 two.0 two.1 in
        let at : s2 ≡ state_at k block (k + 2) = second.1 ∙ ap (state_at k block) {x = k + 1 + 1} {y = k + 2} (omega arith) in
        let third = coded_back k block (k + 2) (omega arith) at three.0 three.1 in
        λ i. first.0 i ∷ second.0 i ∷ third.0 i ∷ []
