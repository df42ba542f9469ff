-- Marks in bytes: how many, which, what a byte with one bit more does to them, that zero bytes hold none, and what bytes are kept.
use mathlib.Core.Path.{◌≡◌, refl, sym, ap, ◌∙◌}
use mathlib.Core.Logic.{◌≢◌, by_cases}
use mathlib.Core.List.{List, ◌++◌}
use mathlib.Core.Bool.{true, false}
use Prim.Native.Nat.{ℕ, ◌+◌, ◌*◌, ◌/◌, ◌%◌, ◌^◌, ◌≤◌, ◌<◌}
use native.Mathlib.Nat.{one-mul}
use native.Mathlib.Decide.{ℕ_discrete, dec_lt}
use native.Mathlib.Omega.{arith}
use lib.Dec.{eqb}
use lib.Bits.{bit_or, bit_and}
use lib.ListN.{length, get_or, set, replicate, length-set, length-replicate, get_or-replicate, get_or-append, get_or-eq_default}
use lib.Seq.{get_or-set_same, get_or-set_other, drop-set-lt}
use Rattle.std.specs.Int.{bit_at}
use Rattle.std.proofs.lemmas.Nat.Bits.{bit_at_or, bit_at-pow_same, bit_at-pow_other, bit_at-lt, bit_at-zero, bit_at_ones, shr_and_one}
use Rattle.permuting.specs.Bitmap.{bit, marked, marks, Kept, Marked}
use Rattle.permuting.proofs.Tabulation.{length_tab, get_or_tab, is_tab}

-- ---- a bit of a number, after an `or` with a power of two, and as a shift and a mask read it

one_times : (i j : ℕ) → bit_at (1 * 2 ^ i) j ≡ bit_at (2 ^ i) j
one_times i j = ap (λ (n : ℕ). bit_at n j) (one-mul (2 ^ i))

pub bit_or_same : (b j : ℕ) → bit (bit_or b (1 * 2 ^ j)) j ≡ true
unfolding bit
bit_or_same b j =
    let set : bit_at (bit_or b (1 * 2 ^ j)) j ≡ 1 = omega (arith, bit_at_or b (1 * 2 ^ j) j, one_times j j, bit_at-pow_same j, bit_at-lt b j) in
    ap (λ (x : ℕ). eqb x 1) set

pub bit_or_other : (b i j : ℕ) → j ≢ i → bit (bit_or b (1 * 2 ^ i)) j ≡ bit b j
unfolding bit
bit_or_other b i j ne =
    ap (λ (x : ℕ). eqb x 1) (omega (arith, bit_at_or b (1 * 2 ^ i) j, one_times i j, bit_at-pow_other i j ne))

pub bit_read : (b j : ℕ) → eqb (bit_and (b / 2 ^ j) 1) 1 ≡ bit b j
unfolding bit
bit_read b j = ap (λ (x : ℕ). eqb x 1) (shr_and_one b j)

pub bit_zero : (j : ℕ) → bit 0 j ≡ false
unfolding bit
bit_zero j = ap (λ (x : ℕ). eqb x 1) (bit_at-zero j)

pub bit_full : (j : ℕ) → j < 8 → bit 255 j ≡ true
unfolding bit
bit_full j low = ap (λ (x : ℕ). eqb x 1) (bit_at_ones 8 j low)

-- ---- the marks

pub length_marks : (k : ℕ) (s : List ℕ) → length (marks k s) ≡ k
unfolding marks
length_marks k s = length_tab (marked s) k

pub get_or_marks : (k : ℕ) (s : List ℕ) (i : ℕ) → i < k → get_or (marks k s) i false ≡ marked s i
unfolding marks
get_or_marks k s i h = get_or_tab (marked s) k i false h

-- the byte that holds place i, with its bit set
abbrev with_bit : List ℕ → ℕ → ℕ
with_bit s i = bit_or (get_or s (i / 8) 0) (1 * 2 ^ (i % 8))

module _ (s : List ℕ) (i : ℕ) (h : i / 8 < length s) where
  marked_same : marked (set s (i / 8) (with_bit s i)) i ≡ true
  unfolding marked
  marked_same =
      ap (λ (b : ℕ). bit b (i % 8)) (get_or-set_same s (i / 8) (with_bit s i) 0 h) ∙ bit_or_same (get_or s (i / 8) 0) (i % 8)

  marked_other : (j : ℕ) → j ≢ i → marked (set s (i / 8) (with_bit s i)) j ≡ marked s j
  unfolding marked
  marked_other j ne = by_cases (ℕ_discrete (j / 8) (i / 8)) same_byte other_byte
    where
      same_byte : j / 8 ≡ i / 8 → marked (set s (i / 8) (with_bit s i)) j ≡ marked s j
      same_byte e =
          let ne' : j % 8 ≢ i % 8 = λ q. ne (omega arith) in
          ap (λ (q : ℕ). bit (get_or (set s (i / 8) (with_bit s i)) q 0) (j % 8)) e
          ∙ ap (λ (b : ℕ). bit b (j % 8)) (get_or-set_same s (i / 8) (with_bit s i) 0 h)
          ∙ bit_or_other (get_or s (i / 8) 0) (i % 8) (j % 8) ne'
          ∙ ap (λ (q : ℕ). bit (get_or s q 0) (j % 8)) (sym e)

      other_byte : j / 8 ≢ i / 8 → marked (set s (i / 8) (with_bit s i)) j ≡ marked s j
      other_byte n = ap (λ (b : ℕ). bit b (j % 8)) (get_or-set_other s (i / 8) (j / 8) (with_bit s i) 0 n)

  marks_more : (k : ℕ) → marks k (set s (i / 8) (with_bit s i)) ≡ set (marks k s) i true
  unfolding marks
  marks_more k =
      sym (is_tab false (set (marks k s) i true) (marked (set s (i / 8) (with_bit s i))) k (length-set (marks k s) i true ∙ length_marks k s)
      (λ j b. by_cases (ℕ_discrete j i) (λ e. at_i j b e) (λ n. get_or-set_other (marks k s) i j true false n ∙ get_or_marks k s j b ∙ sym (marked_other j n))))
    where
      at_i : (j : ℕ) → j < k → j ≡ i → get_or (set (marks k s) i true) j false ≡ marked (set s (i / 8) (with_bit s i)) j
      at_i j b e =
          let b' : i < length (marks k s) = rw length_marks (rw e at b) in
          ap (λ (m : ℕ). get_or (set (marks k s) i true) m false) e ∙ get_or-set_same (marks k s) i true false b' ∙ sym marked_same
          ∙ ap (λ (m : ℕ). marked (set s (i / 8) (with_bit s i)) m) (sym e)

  -- what a store of that byte does
  pub marked_more : {v : ℕ} → v ≡ 1 * 2 ^ (i % 8) → Marked i s (set s (i / 8) (bit_or (get_or s (i / 8) 0) v))
  marked_more e = rw e (record {
    marks = marks_more;
    kept = λ n b. record { size = length-set s (i / 8) (with_bit s i); tail = drop-set-lt n s (i / 8) (with_bit s i) b };
  })

-- where the first n bytes are zero, none of the places that they hold is marked
pub none_marked : (k n : ℕ) (r : List ℕ) → k ≤ n * 8 → (j : ℕ) → get_or (marks k (replicate n 0 ++ r)) j false ≡ false
unfolding marked
none_marked k n r h j =
    by_cases (dec_lt j k) inside (λ past. get_or-eq_default (marks k (replicate n 0 ++ r)) false (rw length_marks (omega arith)))
  where
    inside : j < k → get_or (marks k (replicate n 0 ++ r)) j false ≡ false
    inside b =
        let l : j / 8 < n = omega arith in
        get_or_marks k (replicate n 0 ++ r) j b
        ∙ ap (λ (x : ℕ). bit x (j % 8)) (get_or-append (replicate n 0) r 0 (j / 8) (rw length-replicate l) ∙ get_or-replicate n (j / 8) 0 0 l)
        ∙ bit_zero (j % 8)

-- a byte of 255 marks every place that it holds
pub byte_marked : (k : ℕ) (s : List ℕ) (i j : ℕ) → j < k → get_or s (i / 8) 0 ≡ 255 → i ≤ j → j < i / 8 * 8 + 8 → get_or (marks k s) j false ≡ true
unfolding marked
byte_marked k s i j h full a b =
    let e : j / 8 ≡ i / 8 = omega arith in
    get_or_marks k s j h ∙ ap (λ (x : ℕ). bit x (j % 8)) (ap (λ (q : ℕ). get_or s q 0) e ∙ full) ∙ bit_full (j % 8) (omega arith)

-- ---- bytes that are kept past the first n

pub kept_none : (n : ℕ) (s : List ℕ) → Kept n s s
kept_none n s = record { size = refl; tail = refl }

pub kept_then : {n : ℕ} {s₀ s₁ s₂ : List ℕ} → Kept n s₀ s₁ → Kept n s₁ s₂ → Kept n s₀ s₂
kept_then a b = record { size = b.size ∙ a.size; tail = b.tail ∙ a.tail }

-- a mark leaves the length
pub marked_length : {i : ℕ} {s₀ s₁ : List ℕ} → Marked i s₀ s₁ → length s₁ ≡ length s₀
marked_length {i} m = (m.kept (i / 8 + 1) (omega arith)).size
