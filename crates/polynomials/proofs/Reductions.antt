-- A polynomial brought inside the limits, from the top place down, with room for all sums in 32 bits.
use mathlib.Core.Path.{◌≡◌, refl, sym, ap, subst, ◌∙◌}
use mathlib.Core.List.{List}
use Prim.Native.Nat.{ℕ, zero, suc, ◌+◌, ◌*◌, ◌-◌, ◌/◌, ◌%◌, ◌≤◌, ◌<◌}
use native.Mathlib.Nat.{mod-lt, mod-le, mod-add-div', mul-le-mul, le_refl, add-zero}
use native.Mathlib.Omega.{arith}
use native.Mathlib.Decide.{ℕ_discrete, dec_lt}
use lib.ListN.{length, get_or, set, length-set}
use lib.Seq.{get_or-set_same, get_or-set_other, set-set}
use lib.IntN.{pos}
use Rattle.numbers.specs.Congruences.{Cong}
use Rattle.numbers.proofs.Congruences.{cong_eq, cong_sym, ◌⨾◌, cong_add, cong_times, cong_mod}
use Rattle.numbers.proofs.Lists.{put}
use Rattle.polynomials.specs.Polynomials.{wholes}
use Rattle.polynomials.specs.Bounds.{Limit}
use Rattle.polynomials.specs.Reductions.{Ends, AtMost, Reducible, Reduced}
use Rattle.polynomials.specs.RisingProducts.{rising, sum_at, Added}
use Rattle.polynomials.proofs.Naturals.{valueℕ, plus, plus_place, plus_value, cong_places, wholes_place, wholes_congruent}
use Rattle.polynomials.proofs.Bounds.{limit_one, limit_first, limit_pos}
use Rattle.polynomials.proofs.RisingProducts.{nothing_added, rising_past, rising_top, rising_null}

-- what holds of each place after d, and at d, holds of each place after d - 1
after_more : (P : ℕ → Type 0) (d : ℕ) → ((i : ℕ) → d < i → P i) → P d → (i : ℕ) → d - 1 < i → P i
after_more P d after here i l = go (ℕ_discrete i d)
  where
    go : Dec (i ≡ d) → P i
    go (yes e) = subst P (sym e) here
    go (no n) = after i (omega arith)

-- the coefficient of q at the place k is below the limit there
abbrev Inside : ℕ → List ℕ → ℕ → Type 0
Inside K q k = (m : ℕ) → Limit K k m → get_or q k 0 < m

inside : {K n m : ℕ} → 0 < K → Limit K n m → (q : List ℕ) → get_or q n 0 < m → Inside K q n
inside {n = n} k0 L q here i M = subst (λ (x : ℕ). get_or q n 0 < x) (limit_one k0 L M) here

-- ---- room in 32 bits

-- t times a coefficient that is below K
product_lt : (K t c : ℕ) → 0 < K → K ≤ 8192 → t ≤ K → t * (c % K) < 67108864
product_lt K t c k0 high l =
    omega (arith, mul-le-mul {n₁ = t} {m₁ = c % K} {n₂ = 8192} {m₂ = 8191} (omega arith) (omega (arith, mod-lt c {m = K} k0)))

at_most_added : (b K t n : ℕ) (q r : List ℕ) → 0 < K → K ≤ 8192 → t ≤ K → Added K t n q r → AtMost b q → AtMost (b + 67108864) r
at_most_added b K t n q r k0 high l added h k = go (dec_lt k n)
  where
    go : Dec (k < n) → get_or r k 0 ≤ b + 67108864
    go (yes i) = omega (arith, added.entries k i, product_lt K t (get_or (rising n) k 0) k0 high l, h k)
    go (no i) = omega (arith, added.rest k (omega arith), h k)

-- 2 to the 31st, and for each turn so far 2 to the 26th
abbrev room : ℕ → ℕ
room n = 2147483648 + (13 - n) * 67108864

-- ---- the loop

-- before the turn of the place n, q has come of p: the places past n are inside the limits, and nothing stands past top
pub record Reducing (K top : ℕ) (p q : List ℕ) (n : ℕ) : Type 0 where
  pub left : n ≤ top
  pub within : (k : ℕ) → n < k → Inside K q k
  pub same : (y : ℕ) → Cong K (valueℕ p y) (valueℕ q y)
  pub constant : get_or q 0 0 ≡ get_or p 0 0
  pub ends : Ends top q
  pub at_most : AtMost (room n) q
  pub places : length q ≡ 14

module _ {K top n m : ℕ} {p q : List ℕ} (given : Reducible K top p) (n0 : 0 < n) (L : Limit K n m) (before : Reducing K top p q n) where
  inner : n < length q
  inner = omega (arith, before.places)

  at_most_put : (v : ℕ) → v < K → AtMost (room n) (set q n v)
  at_most_put v l k = put (λ (i x : ℕ). x ≤ room n) q n v inner (omega arith) k (λ _. before.at_most k)

  -- a turn: v is put at the place n, and t times the rising product is added below it, where t is -c times the limit, up to multiples of K
  module _ (v t c : ℕ) (r : List ℕ) (added : Added K t n (set q n v) r) (le : t ≤ K) (whole : Cong K (t + c * m) 0)
      (there : Cong K v (get_or q n 0 + t)) (small : v < m) (below : v < K) where
    put_at : get_or r n 0 ≡ v
    put_at = added.rest n (le_refl n) ∙ get_or-set_same q n v 0 inner

    kept : (k : ℕ) → n < k → get_or r k 0 ≡ get_or q k 0
    kept k l = added.rest k (omega arith) ∙ get_or-set_other q n k v 0 (omega arith)

    sum : (k : ℕ) → k < n → get_or r k 0 ≡ sum_at K t n q k
    sum k l = added.entries k l ∙ ap (λ (x : ℕ). x + t * (get_or (rising n) k 0 % K)) (get_or-set_other q n k v 0 (omega arith))

    place : (k : ℕ) → Cong K (get_or r k 0) (get_or q k 0 + t * get_or (rising n) k 0)
    place k = go (dec_lt k n) (dec_lt n k)
      where
        go : Dec (k < n) → Dec (n < k) → Cong K (get_or r k 0) (get_or q k 0 + t * get_or (rising n) k 0)
        go (yes l) _ = cong_eq (sum k l) ⨾ cong_add (cong_eq {x = get_or q k 0} refl) (cong_times t (cong_sym (cong_mod K (get_or (rising n) k 0))))
        go (no _) (yes l) = cong_eq (kept k l ∙ omega (arith, ap (λ (x : ℕ). t * x) (rising_past n k l)))
        go (no i) (no j) =
            let e : n ≡ k = omega arith in
            subst (λ (k : ℕ). Cong K (get_or r k 0) (get_or q k 0 + t * get_or (rising n) k 0)) e
            (cong_eq put_at ⨾ there ⨾ cong_eq (omega (arith, ap (λ (x : ℕ). t * x) (rising_top n))))

    -- the limit times the rising product is 0 everywhere, and so is t times it
    null : (y : ℕ) → Cong K (t * valueℕ (rising n) y) 0
    null y =
        let R = valueℕ (rising n) y in
        let z = rising_null K n m L y in
        record {
          l = whole.l * R + c * z.r;
          r = whole.r * R + c * z.l;
          eq = omega (arith, ap (λ (s : ℕ). s * R) whole.eq, ap (λ (s : ℕ). c * s) z.eq);
        }

    values : (y : ℕ) → Cong K (valueℕ q y) (valueℕ r y)
    values y =
        cong_eq (sym (add-zero (valueℕ q y)))
        ⨾ cong_add (cong_eq {x = valueℕ q y} refl) (cong_sym (null y))
        ⨾ cong_eq (sym (plus_value q t (rising n) y))
        ⨾ cong_places (plus q t (rising n)) r y (λ k. cong_eq (plus_place q t (rising n) k) ⨾ cong_sym (place k))

    turned : Reducing K top p r (n - 1)
    turned =
        record {
          left = omega (arith, before.left);
          within =
              after_more (Inside K r) n (λ k l m L. subst (λ (x : ℕ). x < m) (sym (kept k l)) (before.within k l m L))
              (inside (omega arith) L r (subst (λ (x : ℕ). x < m) (sym put_at) small));
          same = λ y. before.same y ⨾ values y;
          constant = sum 0 n0 ∙ sym (nothing_added K t n q n0) ∙ before.constant;
          ends = λ k l. kept k (omega arith) ∙ before.ends k l;
          at_most = λ k. omega (arith, at_most_added (room n) K t n (set q n v) r (omega arith) (omega arith) le added (at_most_put v below) k);
          places = added.size ∙ length-set q n v ∙ before.places;
        }

  abbrev a : ℕ
  a = get_or q n 0 % K

  below_modulus : a < K
  below_modulus = mod-lt (get_or q n 0) (omega arith)

  -- the place n is inside its limit once it is below K
  pub reducing_skip : a < m → Reducing K top p (set q n a) (n - 1)
  reducing_skip l =
      turned a 0 0 (set q n a) (record { size = refl; entries = λ i h. omega arith; rest = λ i h. refl }) (omega arith) (cong_eq (omega arith))
      (cong_sym (cong_mod K (get_or q n 0)) ⨾ cong_eq (omega arith)) l below_modulus

  -- otherwise it becomes its remainder by the limit
  pub reducing_step : (r : List ℕ) → Added K (K - (a - a % m)) n (set (set q n a) n (a % m)) r → Reducing K top p r (n - 1)
  reducing_step r added =
      turned (a % m) (K - (a - a % m)) (a / m) r (rw set-set at added) (omega arith)
      (record { l = 0; r = 1; eq = omega (arith, mod-add-div' a m, below_modulus) })
      (record { l = 1; r = 0; eq = omega (arith, mod-le a m, below_modulus) } ⨾ cong_add (cong_sym (cong_mod K (get_or q n 0))) (cong_eq refl))
      (mod-lt a (limit_pos (omega arith) L)) (omega (arith, mod-le a m, below_modulus))

-- at the place 0 the limit is K
pub reducing_end : {K top n : ℕ} {p q : List ℕ} → Reducible K top p → n ≤ 0 → Reducing K top p q n → Reduced K (wholes p) (wholes q)
reducing_end {K} {top} {n} {p} {q} given low g =
    record {
      within = λ k m L. (get_or q k 0, wholes_place q k, all k m L);
      same = λ y l. wholes_congruent p q y y (g.same y);
      free = λ e. wholes_place q 0 ∙ ap pos g.constant ∙ sym (wholes_place p 0) ∙ e;
    }
  where
    all : (k : ℕ) → Inside K q k
    all zero = inside (omega arith) (limit_first (omega arith)) q (omega (arith, g.constant, given.constant))
    all (suc k) = g.within (suc k) (omega arith)
