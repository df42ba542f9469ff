-- Lists of which one place after the other is written: what holds of each place so far, and lists whose front is written by a rule.
use mathlib.Core.Path.{◌≡◌, refl, sym, ap, subst, ◌∙◌}
use mathlib.Core.Logic.{◌≢◌}
use mathlib.Core.List.{List, ◌++◌}
use Prim.Native.Nat.{ℕ, ◌+◌, ◌-◌, ◌≤◌, ◌<◌}
use native.Mathlib.Decide.{ℕ_discrete, dec_lt}
use native.Mathlib.Omega.{arith}
use lib.ListN.{length, get_or, set, length-set, length-append, get_or-append}
use lib.Seq.{get_or-set_same, get_or-set_other, get_or-append-add, ext_get_or}
use Rattle.numbers.specs.Lists.{Written}

-- what holds of what is put at j, and of what stands at another place i, holds at i afterwards
pub put : (P : ℕ → ℕ → Type 0) (xs : List ℕ) (j v : ℕ) → j < length xs → P j v → (i : ℕ) → (i ≢ j → P i (get_or xs i 0)) → P i (get_or (set xs j v) i 0)
put P xs j v l here i other = go (ℕ_discrete i j)
  where
    go : Dec (i ≡ j) → P i (get_or (set xs j v) i 0)
    go (yes e) = subst (λ (n : ℕ). P n (get_or (set xs j v) n 0)) (sym e) (subst (λ (x : ℕ). P j x) (sym (get_or-set_same xs j v 0 l)) here)
    go (no n) = subst (λ (x : ℕ). P i x) (sym (get_or-set_other xs j i v 0 n)) (other n)

-- what holds of each place before j, and of what is put at j, holds of each place before j + 1
pub filled_more : (P : ℕ → ℕ → Type 0) (xs : List ℕ) (j v : ℕ) → j < length xs → ((i : ℕ) → i < j → P i (get_or xs i 0)) → P j v
    → (i : ℕ) → i < j + 1 → P i (get_or (set xs j v) i 0)
filled_more P xs j v l before here i m = put P xs j v l here i (λ n. before i (omega arith))

-- ---- written by a rule

pub written_none : {rule : ℕ → ℕ} {list : List ℕ} → Written rule 0 list list
written_none = record { size = refl; entries = λ i h. absurd (omega arith); rest = λ i h. refl }

pub written_more : {rule : ℕ → ℕ} {n : ℕ} {before list : List ℕ} (v : ℕ) → Written rule n before list → n < length list → v ≡ rule n
    → Written rule (n + 1) before (set list n v)
written_more {rule} {n} {before} {list} v w room e =
    record {
      size = length-set list n v ∙ w.size;
      entries = filled_more (λ (i x : ℕ). x ≡ rule i) list n v room w.entries e;
      rest = λ i h. get_or-set_other list n i v 0 (omega arith) ∙ w.rest i (omega arith);
    }

-- one list fits
pub written_one : {rule : ℕ → ℕ} {n : ℕ} {before a b : List ℕ} → Written rule n before a → Written rule n before b → a ≡ b
written_one {rule} {n} {before} {a} {b} p q = ext_get_or 0 a b (p.size ∙ sym q.size) (λ i l. at i (dec_lt i n))
  where
    at : (i : ℕ) → Dec (i < n) → get_or a i 0 ≡ get_or b i 0
    at i (yes h) = p.entries i h ∙ sym (q.entries i h)
    at i (no h) = p.rest i (omega arith) ∙ sym (q.rest i (omega arith))

-- by another rule that says the same below n
pub written_same : {rule rule' : ℕ → ℕ} {n : ℕ} {before after : List ℕ} → ((i : ℕ) → i < n → rule i ≡ rule' i) → Written rule n before after → Written rule' n before after
written_same e w = record { size = w.size; entries = λ i h. w.entries i h ∙ e i h; rest = w.rest }

-- what is written at the front of a list
pub written_front : (rule : ℕ → ℕ) (n : ℕ) (room list rest : List ℕ) → length room ≡ n → length list ≡ n → ((i : ℕ) → i < n → get_or list i 0 ≡ rule i)
    → Written rule n (room ++ rest) (list ++ rest)
written_front rule n room list rest r l entries =
    record {
      size = simp length-append (omega arith);
      entries = λ i h. get_or-append list rest 0 i (omega arith) ∙ entries i h;
      rest = λ i h. past list l i h ∙ sym (past room r i h);
    }
  where
    past : (front : List ℕ) → length front ≡ n → (i : ℕ) → n ≤ i → get_or (front ++ rest) i 0 ≡ get_or rest (i - n) 0
    past front e i h = ap (λ (m : ℕ). get_or (front ++ rest) m 0) {y = length front + (i - n)} (omega arith) ∙ get_or-append-add front rest (i - n) 0
