-- A map that rises alike every q positions, and permutes m·q of them, m at least 3: what it spreads along the line it spreads round the circle.
-- Two near positions with near addresses come again q further on, m times in all; few of these cross the end, and few of their addresses do,
-- since a spread of s takes more than s·(s - 1) positions. So one pair crosses neither, and is near along the line.
use mathlib.Core.Path.{◌≡◌, refl, sym, ap, subst, ◌∙◌}
use mathlib.Core.Logic.{◌≢◌, ⊎_elim, by_cases}
use Prim.Native.Nat.{ℕ, zero, suc, ◌+◌, ◌-◌, ◌*◌, ◌/◌, ◌%◌, ◌≤◌, ◌<◌}
use native.Mathlib.Nat.{mod-lt, div-add-mod, div-lt_iff_lt-mul, mul-le-mul_right, eq_of_mul-eq-mul_right}
use native.Mathlib.Decide.{dec_lt}
use native.Mathlib.Omega.{arith}
use Rattle.numbers.specs.Congruences.{Cong}
use Rattle.numbers.proofs.Divisors.{factors_pos}
use Rattle.numbers.proofs.Congruences.{cong_eq, cong_add, cong_cancel, cong_same, cong_small, ◌⨾◌}
use Rattle.permuting.proofs.Permutations.{no_room}
use Rattle.spreading.specs.Spreads.{line, circular, Spreads}
use Rattle.spreading.proofs.Packing.{packed}
use Rattle.spreading.proofs.Circles.{ahead, circular_swap, circular_some}

pub record Rises (φ : ℕ → ℕ) (m q : ℕ) : Type 0 where
  pub below : (x : ℕ) → φ x < m * q
  pub rise : ℕ
  pub further : (x : ℕ) → Cong (m * q) (φ (x + q)) (φ x + rise * q)

module _ {φ : ℕ → ℕ} {m q : ℕ} (g : Rises φ m q) where
  pub after : (t x : ℕ) → Cong (m * q) (φ (x + t * q)) (φ x + t * (g.rise * q))
  after zero x = let e : x + 0 * q ≡ x = omega arith in cong_eq (ap φ e ∙ omega arith)
  after (suc t) x =
      let e : x + suc t * q ≡ x + t * q + q = omega arith in
      cong_eq (ap φ e) ⨾ g.further (x + t * q) ⨾ cong_add (after t x) (cong_eq {x = g.rise * q} refl) ⨾ cong_eq (omega arith)

  -- it goes round
  round : (l x : ℕ) → φ (x + l * (m * q)) ≡ φ x
  round l x =
      let e : x + l * (m * q) ≡ x + l * m * q = omega arith in
      cong_small (cong_eq (ap φ e) ⨾ after (l * m) x ⨾ record { l = 0; r = l * g.rise; eq = omega arith }) (g.below (x + l * (m * q))) (g.below x)

  pub respects : {x y : ℕ} → Cong (m * q) x y → φ x ≡ φ y
  respects {x} {y} c = sym (round c.l x) ∙ ap φ c.eq ∙ round c.r y

  -- modulo q it is the same every q positions
  remainder : (t x : ℕ) → φ (x + t * q) % q ≡ φ x % q
  remainder t x =
      let c = after t x in
      cong_same (record { l = c.l * m; r = t * g.rise + c.r * m; eq = omega (arith, c.eq) })

  -- so is a difference of addresses modulo m·q
  pub again : (p p' e t u : ℕ) → Cong (m * q) (φ (p + t * q)) (φ (p' + t * q) + e) → Cong (m * q) (φ (p + u * q)) (φ (p' + u * q) + e)
  again p p' e t u c =
      let a = after t p in
      let b = after t p' in
      let a' = after u p in
      let b' = after u p' in
      record {
        l = a.r + b.l + c.l + a'.l + b'.r;
        r = a.l + b.r + c.r + a'.r + b'.l;
        eq = omega (arith, a.eq, b.eq, c.eq, a'.eq, b'.eq);
      }

  module _ (apart : (x y : ℕ) → x < m * q → y < m * q → φ x ≡ φ y → x ≡ y) where
    -- c·q covers a distance below s, and twice c is less than m
    module _ (s c : ℕ) (pos : 0 < q) (cover : s ≤ c * q + 1) (few : c + c < m) (spreads : Spreads line φ (m * q) s) where
      -- m - c of the pairs of positions are within the line, and each has an address below c·q
      none_near : (p p' e t : ℕ) → p ≢ p' → line p p' < s → p < (c + 1) * q → p' < (c + 1) * q → e < s
          → Cong (m * q) (φ (p + t * q)) (φ (p' + t * q) + e) → ⊥
      none_near p p' e t ne near lp lp' less eq =
          no_room (m - c) c (λ u. φ (p + u * q) / q) (omega arith)
          (λ u l. (div-lt_iff_lt-mul {k = q} {x = φ (p + u * q)} {y = c} pos).1 (start u l)) same
        where
          within : (x u : ℕ) → x < (c + 1) * q → u < m - c → x + u * q < m * q
          within x u l lu =
              let h : u + c + 1 ≤ m = omega arith in
              let b : (u + c + 1) * q ≤ m * q = mul-le-mul_right q h in
              omega arith

          -- a pair far apart along the line goes round the end
          small : (k a b : ℕ) → a < k → b < k → s ≤ line a b → Cong k a (b + e) → a < e
          small k a b la lb far w =
              by_cases (dec_lt a e) (λ l. l)
              (λ l.
              let z : a - e ≡ b = cong_small (cong_cancel e (cong_eq (omega arith) ⨾ w ⨾ cong_eq (omega arith))) (omega arith) lb in
              absurd (omega arith))

          start : (u : ℕ) → u < m - c → φ (p + u * q) < c * q
          start u l =
              let a = φ (p + u * q) in
              let b = φ (p' + u * q) in
              let far : s ≤ line a b = spreads (p + u * q) (p' + u * q) (within p u lp l) (within p' u lp' l) (λ h. ne (omega arith)) (omega arith) in
              omega (arith, small (m * q) a b (g.below (p + u * q)) (g.below (p' + u * q)) far (again p p' e t u eq))

          same : (u v : ℕ) → u < m - c → v < m - c → φ (p + u * q) / q ≡ φ (p + v * q) / q → u ≡ v
          same u v lu lv h =
              let r : φ (p + u * q) % q ≡ φ (p + v * q) % q = remainder u p ∙ sym (remainder v p) in
              let a : φ (p + u * q) ≡ φ (p + v * q) = omega (arith, div-add-mod (φ (p + u * q)) q, div-add-mod (φ (p + v * q)) q, ap (λ (n : ℕ). q * n) h) in
              let z : p + u * q ≡ p + v * q = apart (p + u * q) (p + v * q) (within p u lp lu) (within p v lp lv) a in
              eq_of_mul-eq-mul_right q pos u v (omega arith)

      -- no position d further on has an address near
      none_further : (x y d : ℕ) → 0 < d → d < s → circular (m * q) (φ x) (φ y) < s → Cong (m * q) y (x + d) → ⊥
      none_further x y d some less near on =
          let e = circular (m * q) (φ x) (φ y) in
          ⊎_elim
          (λ w. none_near (r + d) r e (x / q) (λ h. omega arith) (omega arith) (omega (arith, low)) (omega (arith, low)) near
          (cong_eq (ap φ (sym ey) ∙ sym (respects on)) ⨾ w ⨾ cong_eq (ap (λ (n : ℕ). φ n + e) ex)))
          (λ w. none_near r (r + d) e (x / q) (λ h. omega arith) (omega arith) (omega (arith, low)) (omega (arith, low)) near
          (cong_eq (ap φ (sym ex)) ⨾ w ⨾ cong_eq (ap (λ (n : ℕ). n + e) (respects on ∙ ap φ ey))))
          (ahead (m * q) (φ x) (φ y) (g.below x) (g.below y))
        where
          r : ℕ
          r = x % q

          ex : x ≡ r + x / q * q
          ex = omega (arith, div-add-mod x q)

          ey : x + d ≡ r + d + x / q * q
          ey = omega (arith, ex)

          low : r < q
          low = mod-lt x pos

      covered : Spreads (circular (m * q)) φ (m * q) s
      covered x y lx ly ne near =
          by_cases (dec_lt (circular (m * q) (φ x) (φ y)) s)
          (λ h. absurd
          (⊎_elim (none_further x y (circular (m * q) x y) some near h)
          (none_further y x (circular (m * q) x y) some near (subst (λ (n : ℕ). n < s) (circular_swap (m * q) (φ x) (φ y)) h)) (ahead (m * q) x y lx ly)))
          (λ h. omega arith)
        where
          some : 0 < circular (m * q) x y
          some = circular_some (m * q) x y lx ly ne

    -- what is spread along the line is spread round the circle
    pub line_circular : (3 ≤ m * q → 3 ≤ m) → (s : ℕ) → s ≤ m * q → Spreads line φ (m * q) s → Spreads (circular (m * q)) φ (m * q) s
    line_circular three s le spreads =
        by_cases (dec_lt 1 s)
        (λ h.
        let e : s ≡ s - 2 + 1 + 1 = omega arith in
        let room : (s - 2 + 1) * (s - 2 + 1 + 1) < m * q =
        packed (s - 2 + 1) (omega arith) (λ x _. g.below x) (subst (λ (n : ℕ). Spreads line φ (m * q) n) e spreads) in
        let d = div-add-mod (s - 2) q in
        covered s ((s - 2) / q + 1) parts.1 (omega (arith, mod-lt (s - 2) parts.1))
        (few (s - 2) ((s - 2) / q) room (three (omega arith)) (omega arith)) spreads)
        (λ h. covered s 0 parts.1 (omega arith) (omega (arith, parts.0)) spreads)
      where
        parts : (0 < m) × (0 < q)
        parts = factors_pos (m * q) m q (omega (arith, g.below 0)) refl

        never : (j : ℕ) → (j + 1) * (j + 1 + 1) < 6 * j → ⊥
        never zero l = omega arith
        never (suc zero) l = omega arith
        never (suc (suc i)) l = omega arith

        few : (j c : ℕ) → (j + 1) * (j + 1 + 1) < m * q → 3 ≤ m → c * q ≤ j → c + 1 + (c + 1) < m
        few j c room big le =
            by_cases (dec_lt (c + 1 + (c + 1)) m) (λ h. h)
            (λ h.
            let w : m ≤ 2 * c + 2 = omega arith in
            let a : m * q ≤ (2 * c + 2) * q = mul-le-mul_right q w in
            let b : 3 * q ≤ m * q = mul-le-mul_right q big in
            absurd (never j (omega arith)))
