-- Cleared bytes: none of their places is marked, no second answer is cleared, and to clear again is to clear.
use mathlib.Core.Path.{◌≡◌, sym, ap, ◌∙◌}
use mathlib.Core.Bool.{false}
use mathlib.Core.List.{List, ◌++◌}
use Prim.Native.Nat.{ℕ, ◌*◌, ◌≤◌}
use native.Mathlib.Omega.{arith}
use lib.ListN.{length, get_or, drop, replicate, length-append, length-drop, length-replicate}
use lib.Seq.{drop_at}
use Rattle.permuting.specs.Scratch.{Cleared}
use Rattle.permuting.specs.Bitmap.{marks, Kept}
use Rattle.permuting.proofs.Bitmap.{none_marked, kept_none}

pub cleared_none_marked : {n : ℕ} {s₀ s₁ : List ℕ} (k : ℕ) → k ≤ n * 8 → Cleared n s₀ s₁ → (j : ℕ) → get_or (marks k s₁) j false ≡ false
cleared_none_marked {n} {s₀} k h c j = ap (λ (s : List ℕ). get_or (marks k s) j false) c.bytes ∙ none_marked k n (drop n s₀) h j

pub cleared_length : {n : ℕ} {s₀ s₁ : List ℕ} → n ≤ length s₀ → Cleared n s₀ s₁ → length s₁ ≡ length s₀
cleared_length {n} {s₀} h c = ap length c.bytes ∙ simp (length-append, length-replicate, length-drop) (omega arith)

-- n bytes, of whatever they held, at the front of others
pub cleared_front : {n : ℕ} (front rest : List ℕ) → length front ≡ n → Cleared n (front ++ rest) (replicate n 0 ++ rest)
cleared_front {n} front rest e = record { bytes = ap (λ (l : List ℕ). replicate n 0 ++ l) (sym (drop_at front rest n e)) }

-- no second answer is cleared
pub cleared_one : {n : ℕ} {s₀ s₁ s₂ : List ℕ} → Cleared n s₀ s₁ → Cleared n s₀ s₂ → s₁ ≡ s₂
cleared_one a b = a.bytes ∙ sym b.bytes

-- to clear, change the first n bytes alone, and clear again, is to clear
pub cleared_again : {n : ℕ} {s₀ s₁ s₂ s₃ : List ℕ} → Cleared n s₀ s₁ → Kept n s₁ s₂ → Cleared n s₂ s₃ → Cleared n s₀ s₃
cleared_again {n} {s₀} a h b = record {
  bytes = b.bytes
      ∙ ap (λ (s : List ℕ). replicate n 0 ++ s)
      (h.tail ∙ ap (λ (s : List ℕ). drop n s) a.bytes ∙ drop_at (replicate n 0) (drop n s₀) n (length-replicate n 0));
}

pub cleared_twice : {n : ℕ} {s₀ s₁ s₂ : List ℕ} → Cleared n s₀ s₁ → Cleared n s₁ s₂ → Cleared n s₀ s₂
cleared_twice {n} {s₀} {s₁} a b = cleared_again a (kept_none n s₁) b
