-- Why products alone find the remainder: v/k is taken in parts of the scale, so closely that its whole part and v % k come out right.
use mathlib.Core.Path.{◌≡◌, refl, sym, ap, ◌∙◌}
use Prim.Native.Nat.{ℕ, ◌+◌, ◌-◌, ◌*◌, ◌/◌, ◌%◌, ◌≤◌, ◌<◌}
use native.Mathlib.Nat.{mod-lt, mod-add-div', div-add-mod', mul-le-mul, mul-le-mul_right, le-div_iff_mul-le, le_of_mul-le-mul_right, lt_of_mul-lt-mul_right, div-eq_of_lt-le, div-lt_iff_lt-mul, mul-lt-mul_of_pos_right}
use native.Mathlib.Omega.{arith}
use Rattle.numbers.proofs.Congruences.{cong_eq, cong_sym, cong_same, cong_mul, cong_mod, ◌⨾◌}
use Rattle.triples.specs.declared.Triple.{Triple}
use Rattle.triples.specs.Shuffles.{InRange}
use Rattle.maps.specs.Maps.{scale, MapOf}

-- v is q·k + r, and n is v·M/k or above it, by less than M/k: then n / M is q, and n % M gives r
module _ (M k q r n w : ℕ) (pos : 0 < k) (less : r < k) (near : n * k ≡ (q * k + r) * M + w) (small : w < M) where
  room : (r + 1) * M ≤ k * M
  room = mul-le-mul_right {m = r + 1} {n = k} M (omega arith)

  turns : n / M ≡ q
  turns =
      div-eq_of_lt-le {k = q} M {m = n} (le_of_mul-le-mul_right {m = q * M} {n = n} {k = k} (omega arith) pos)
      (lt_of_mul-lt-mul_right k {m = n} {n = (q + 1) * M} (omega (arith, room)))

  over : (d s : ℕ) → d * M + s ≡ n → d ≡ q → s * k / M ≡ r
  over d s split same =
      let e : s * k ≡ r * M + w = omega (arith, ap (λ (t : ℕ). t * k) split, ap (λ (t : ℕ). t * (M * k)) same) in
      div-eq_of_lt-le {k = r} M {m = s * k} (omega arith) (omega arith)

pub fraction : (M k v n w : ℕ) → 0 < k → n * k ≡ v * M + w → w < M → n % M * k / M ≡ v % k
fraction M k v n w pos near small =
    let less : v % k < k = mod-lt v pos in
    let near' : n * k ≡ (v / k * k + v % k) * M + w = near ∙ ap (λ (t : ℕ). t * M + w) (sym (div-add-mod' v k)) in
    over M k (v / k) (v % k) n w pos less near' small (n / M) (n % M) (div-add-mod' n M) (turns M k (v / k) (v % k) n w pos less near' small)

-- ---- the scaled coefficients

-- the scale over 8192
large : (k : ℕ) → 0 < k → k ≤ 8192 → 274877906944 ≤ scale / k
large k pos high = (le-div_iff_mul-le {k = k} {x = 274877906944} {y = scale} pos).1 (omega arith)

-- m is what scale/k is without its fraction, and r is left of the scale
pub record Quotient (k m r : ℕ) : Type 0 where
  pub split : r + m * k ≡ scale
  pub less : r < k
  pub high : k ≤ 8192
  pub large : 274877906944 ≤ m

pub quotient : (k : ℕ) → 0 < k → k ≤ 8192 → Quotient k (scale / k) (scale % k)
quotient k pos high = record { split = mod-add-div' scale k; less = mod-lt scale pos; high = high; large = large k pos high }

-- the coefficients p and q serve for a and b at x: their sum, times k, is too high by w
scaled_place : (k a b p q x w : ℕ) → 0 < k → (p * x + q * (x * x)) * k ≡ (a * x + b * (x * x)) * scale + w → w < scale
    → (p + q * x) % scale * x % scale * k / scale ≡ (a * x + b * (x * x)) % k
scaled_place k a b p q x w pos near small =
    ap (λ (n : ℕ). n * k / scale) (cong_same (cong_mul (cong_sym (cong_mod scale (p + q * x))) (cong_eq {x = x} refl) ⨾ cong_eq (omega arith)))
    ∙ fraction scale k (a * x + b * (x * x)) (p * x + q * (x * x)) w pos near small

-- w is less than the scale where the second coefficient is at most half of the greatest length
off_small : (e c d x : ℕ) → e ≤ 8192 → c ≤ 8192 → d ≤ 4096 → x ≤ 8191 → e * (c * x + d * (x * x)) < scale
off_small e c d x he hc hd hx =
    let line : c * x ≤ 8192 * 8191 = mul-le-mul {n₁ = c} {m₁ = x} hc hx in
    let square : d * (x * x) ≤ 4096 * (8191 * 8191) = mul-le-mul {n₁ = d} {m₁ = x * x} hd (mul-le-mul {n₁ = x} {m₁ = x} hx hx) in
    omega (arith, mul-le-mul {n₁ = e} {m₁ = c * x + d * (x * x)} {n₂ = 8192} {m₂ = 8192 * 8191 + 4096 * (8191 * 8191)} he (omega arith))

module _ (k m r : ℕ) (u : Quotient k m r) where
  pub above_lt : (a : ℕ) → a < k → a * (m + 1) < scale
  above_lt a h = omega (arith, u.split, u.less, u.high, u.large, mul-le-mul_right {m = a + 1} {n = k} m (omega arith))

  pub below_lt : (a : ℕ) → a < k → a * m + r < scale
  below_lt a h = omega (arith, u.split, u.large, mul-le-mul_right {m = a + 1} {n = k} m (omega arith))

module _ (t : Triple) (range : InRange t) (m r : ℕ) (u : Quotient t.k m r) where
  -- the coefficients p and q make the map of the triple where each place comes out too high by w at most
  scaled : (p q : ℕ) (w : ℕ → ℕ) → p < scale → q < scale
      → ((x : ℕ) → (p * x + q * (x * x)) * t.k ≡ (t.f1 * x + t.f2 * (x * x)) * scale + w x) → ((x : ℕ) → x < t.k → w x < scale)
      → MapOf t (record { k = t.k; f1 = p; f2 = q })
  scaled p q w first second near small =
      record {
        sound = record { some = omega (arith, range.low); few = range.high; first = first; second = second };
        size = refl;
        places = λ x h. scaled_place t.k t.f1 t.f2 p q x (w x) (omega arith) (near x) (small x h);
      }

  pub scaled_above : 2 * t.f2 ≤ t.k → MapOf t (record { k = t.k; f1 = t.f1 * (m + 1); f2 = t.f2 * (m + 1) })
  scaled_above half =
      scaled (t.f1 * (m + 1)) (t.f2 * (m + 1)) (λ x. (t.k - r) * (t.f1 * x + t.f2 * (x * x)))
      (above_lt t.k m r u t.f1 range.first) (above_lt t.k m r u t.f2 range.second)
      (λ x. omega (arith, ap (λ (n : ℕ). (t.f1 * x + t.f2 * (x * x)) * n) one))
      (λ x h. off_small (t.k - r) t.f1 t.f2 x (omega (arith, u.high)) (omega (arith, u.high, range.first)) (omega (arith, u.high)) (omega (arith, u.high)))
    where
      one : (m + 1) * t.k ≡ scale + (t.k - r)
      one = omega (arith, u.split, u.less)

  pub scaled_below : t.k < 2 * t.f2 → MapOf t (record { k = t.k; f1 = t.f1 * m + r; f2 = t.f2 * m + r })
  scaled_below half =
      scaled (t.f1 * m + r) (t.f2 * m + r) (λ x. r * ((t.k - t.f1) * x + (t.k - t.f2) * (x * x)))
      (below_lt t.k m r u t.f1 range.first) (below_lt t.k m r u t.f2 range.second)
      (λ x. near t.f1 t.f2 (t.k - t.f1) (t.k - t.f2) x (omega (arith, range.first)) (omega (arith, range.second)))
      (λ x h. off_small r (t.k - t.f1) (t.k - t.f2) x (omega (arith, u.high, u.less)) (omega (arith, u.high)) (omega (arith, u.high)) (omega (arith, u.high)))
    where
      near : (a b c d x : ℕ) → a + c ≡ t.k → b + d ≡ t.k → ((a * m + r) * x + (b * m + r) * (x * x)) * t.k ≡ (a * x + b * (x * x)) * scale + r * (c * x + d * (x * x))
      near a b c d x ea eb =
          omega (arith, ap (λ (n : ℕ). (a * x + b * (x * x)) * n) u.split, ap (λ (n : ℕ). r * x * n) ea, ap (λ (n : ℕ). r * (x * x) * n) eb)

-- ---- nothing leaves 64 bits

pub times_small : (a x : ℕ) → a < scale → a * x ≤ 2251799813685247 * x
times_small a x h = mul-le-mul_right {m = a} {n = 2251799813685247} x (omega arith)

pub rest_small : (a x : ℕ) → a % scale * x ≤ 2251799813685247 * x
rest_small a x = times_small (a % scale) x (mod-lt a (omega arith))

-- what is left of the scale, times k, is less than k times the scale
pub place_within : (n k : ℕ) → 0 < k → n % scale * k / scale < k
place_within n k pos =
    (div-lt_iff_lt-mul {k = scale} {x = n % scale * k} {y = k} (omega arith)).1
    (omega (arith, mul-lt-mul_of_pos_right {m = n % scale} {n = scale} {k = k} (mod-lt n (omega arith)) pos))
