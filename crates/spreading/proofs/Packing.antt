-- How many positions a spread takes.
use mathlib.Core.Path.{◌≡◌, ap, subst}
use mathlib.Core.Logic.{by_cases}
use Prim.Native.Nat.{ℕ, ◌+◌, ◌-◌, ◌*◌, ◌/◌, ◌≤◌, ◌<◌}
use native.Mathlib.Nat.{mod-lt, div-add-mod, div-lt_iff_lt-mul, mul-le-mul, min-le_left, le_trans, lt_of_le_of_lt}
use native.Mathlib.Decide.{dec_lt, ℕ_discrete}
use native.Mathlib.Omega.{arith}
use Rattle.permuting.proofs.Permutations.{no_room}
use Rattle.spreading.specs.Spreads.{line, circular, Spreads}

-- no distance is longer round the circle
pub circular_line : (φ : ℕ → ℕ) (n s : ℕ) → Spreads (circular n) φ n s → Spreads line φ n s
circular_line φ n s h x y lx ly ne near =
    le_trans (h x y lx ly ne (lt_of_le_of_lt (shorter x y) near)) (shorter (φ x) (φ y))
  where
    shorter : (a b : ℕ) → circular n a b ≤ line a b
    shorter a b = min-le_left (line a b) (n - line a b)

-- two numbers with the same quotient are near
quotient_near : (s a b : ℕ) → 0 < s → a / s ≡ b / s → line a b < s
quotient_near s a b pos e =
    omega (arith, div-add-mod a s, div-add-mod b s, ap (λ (n : ℕ). s * n) e, mod-lt a pos, mod-lt b pos)

-- a spread of k + 1 takes more than k·(k + 1) positions
pub packed : {φ : ℕ → ℕ} {n : ℕ} (k : ℕ) → k + 1 ≤ n → ((x : ℕ) → x < n → φ x < n) → Spreads line φ n (k + 1) → k * (k + 1) < n
packed {φ} {n} k le below spreads =
    by_cases (dec_lt (k * (k + 1)) n) (λ l. l)
    (λ l. absurd
    (no_room (k + 1) k (λ i. φ i / (k + 1)) (omega arith)
    (λ i li. (div-lt_iff_lt-mul {k = k + 1} {x = φ i} {y = k} (omega arith)).1 (omega (arith, below i (omega arith))))
    (λ i j li lj e. by_cases (ℕ_discrete i j) (λ same. same)
    (λ ne. absurd (omega (arith, spreads i j (omega arith) (omega arith) ne (omega arith), quotient_near (k + 1) (φ i) (φ j) (omega arith) e))))))

-- so it is at most r where the positions are at most r·(r + 1)
pub packed_within : {φ : ℕ → ℕ} {n : ℕ} (s r : ℕ) → s ≤ n → ((x : ℕ) → x < n → φ x < n) → Spreads (circular n) φ n s → n ≤ r * (r + 1) → s ≤ r
packed_within {φ} {n} s r le below spreads enough =
    by_cases (dec_lt r s)
    (λ h.
    let e : s ≡ s - 1 + 1 = omega arith in
    let room = packed (s - 1) (omega arith) below (subst (λ (m : ℕ). Spreads line φ n m) e (circular_line φ n s spreads)) in
    let a : r ≤ s - 1 = omega arith in
    let b : r + 1 ≤ s - 1 + 1 = omega arith in
    let m : r * (r + 1) ≤ (s - 1) * (s - 1 + 1) = mul-le-mul a b in
    absurd (omega arith)) (λ h. omega arith)
