-- A polynomial and a map that are given by numbers: that the one is the inverse of the other is a computed test.
use mathlib.Core.Path.{◌≡◌, refl, ap, subst, ◌∙◌}
use mathlib.Core.Bool.{Bool, ◌&&◌}
use mathlib.Core.List.{List, ◌∷◌}
use Prim.Native.Nat.{ℕ, zero, suc, ◌+◌, ◌-◌, ◌/◌, ◌%◌, ◌<◌}
use native.Mathlib.Nat.{mod-lt}
use native.Mathlib.Omega.{arith}
use native.Mathlib.Decide.{dec_lt}
use lib.Dec.{T, eqb, eqb→eq, ltb, ltb→lt}
use lib.ListN.{length, get_or, get_or-eq_default}
use lib.IntN.{pos}
use Rattle.numbers.specs.Divisors.{IsGcd}
use Rattle.numbers.proofs.Divisors.{gcd_end, gcd_step}
use Rattle.numbers.proofs.Congruences.{cong_eq, cong_mod, ◌⨾◌}
use Rattle.numbers.proofs.Computation.{both_parts, every, passes}
use Rattle.polynomials.specs.Polynomials.{wholes}
use Rattle.polynomials.specs.Bounds.{Limit}
use Rattle.polynomials.specs.Inverses.{InversePolynomial, Inverted}
use Rattle.polynomials.proofs.Naturals.{valueℕ, wholes_place, wholes_degree}
use Rattle.polynomials.proofs.Bounds.{limit_one, limit_pos, limit_first, limit_next}
use Rattle.polynomials.proofs.Inverses.{undoes_wholes, inverse_polynomial, inverted_from}

-- ---- the limits, computed

abbrev pub gcd_below : ℕ → ℕ → ℕ → ℕ
gcd_below zero a b = a
gcd_below (suc n) a zero = a
gcd_below (suc n) a (suc b) = gcd_below n (suc b) (a % suc b)

gcd_below_is : (n a b : ℕ) → b < n → IsGcd a b (gcd_below n a b)
gcd_below_is zero a b l = absurd (omega arith)
gcd_below_is (suc n) a zero l = gcd_end a 0 refl
gcd_below_is (suc n) a (suc b) l =
    gcd_step a (suc b) (gcd_below n (suc b) (a % suc b)) (gcd_below_is n (suc b) (a % suc b) (omega (arith, mod-lt a {m = suc b} (omega arith))))

abbrev pub limit_at : ℕ → ℕ → ℕ
limit_at K zero = K
limit_at K (suc k) = let m = limit_at K k in m / gcd_below (suc (suc k)) m (suc k)

limit_at_is : (K : ℕ) → 0 < K → (k : ℕ) → Limit K k (limit_at K k)
limit_at_is K k0 zero = limit_first k0
limit_at_is K k0 (suc k) =
    limit_next k0 (suc k) (limit_at K k) (gcd_below (suc (suc k)) (limit_at K k) (suc k)) (omega arith)
    (subst (λ (i : ℕ). Limit K i (limit_at K k)) (omega arith) (limit_at_is K k0 k))
    (gcd_below_is (suc (suc k)) (limit_at K k) (suc k) (omega arith))

-- ---- the test

-- K is 2 or more, D at most 13, and g has degree D at least and no constant
abbrev pub shaped : ℕ → ℕ → List ℕ → Bool
shaped K D g = ltb 1 K && ltb D 14 && eqb (get_or g 0 0) 0 && ltb 0 (get_or g D 0)

-- at the position x, g undoes φ and φ undoes g
abbrev pub undone : ℕ → (ℕ → ℕ) → List ℕ → ℕ → Bool
undone K φ g x = eqb (valueℕ g (φ x) % K) x && eqb (φ (valueℕ g x % K)) x

-- the coefficient at the place k is inside its limit, and the one k places past D + 1 is 0
abbrev pub kept : ℕ → ℕ → List ℕ → ℕ → Bool
kept K D g k = ltb (get_or g k 0) (limit_at K k) && eqb (get_or g (D + 1 + k) 0) 0

abbrev pub inverse_test : ℕ → (ℕ → ℕ) → ℕ → List ℕ → Bool
inverse_test K φ D g = shaped K D g && every K (undone K φ g) && every (length g) (kept K D g)

-- what the parts of the test say
module _ (K : ℕ) (φ : ℕ → ℕ) (D : ℕ) (g : List ℕ) (t : T (inverse_test K φ D g)) where
  parts : T (shaped K D g && every K (undone K φ g)) × T (every (length g) (kept K D g))
  parts = both_parts (shaped K D g && every K (undone K φ g)) (every (length g) (kept K D g)) t

  first : T (shaped K D g) × T (every K (undone K φ g))
  first = both_parts (shaped K D g) (every K (undone K φ g)) parts.0

  bounds : (1 < K) × (D < 14) × (get_or g 0 0 ≡ 0) × (0 < get_or g D 0)
  bounds =
      let (three, top) = both_parts (ltb 1 K && ltb D 14 && eqb (get_or g 0 0) 0) (ltb 0 (get_or g D 0)) first.0 in
      let (two, free) = both_parts (ltb 1 K && ltb D 14) (eqb (get_or g 0 0) 0) three in
      let (low, degree) = both_parts (ltb 1 K) (ltb D 14) two in
      (ltb→lt 1 K low, ltb→lt D 14 degree, eqb→eq (get_or g 0 0) 0 free, ltb→lt 0 (get_or g D 0) top)

  position : (x : ℕ) → x < K → (valueℕ g (φ x) % K ≡ x) × (φ (valueℕ g x % K) ≡ x)
  position x l =
      let (left, right) = both_parts (eqb (valueℕ g (φ x) % K) x) (eqb (φ (valueℕ g x % K)) x) (passes K (undone K φ g) first.1 x l) in
      (eqb→eq (valueℕ g (φ x) % K) x left, eqb→eq (φ (valueℕ g x % K)) x right)

  place : (k : ℕ) → (get_or g k 0 < limit_at K k) × (get_or g (D + 1 + k) 0 ≡ 0)
  place k = go (dec_lt k (length g))
    where
      go : Dec (k < length g) → (get_or g k 0 < limit_at K k) × (get_or g (D + 1 + k) 0 ≡ 0)
      go (yes l) =
          let (low, none) = both_parts (ltb (get_or g k 0) (limit_at K k)) (eqb (get_or g (D + 1 + k) 0) 0) (passes (length g) (kept K D g) parts.1 k l) in
          (ltb→lt (get_or g k 0) (limit_at K k) low, eqb→eq (get_or g (D + 1 + k) 0) 0 none)
      go (no l) =
          let z : get_or g k 0 ≡ 0 = get_or-eq_default g 0 {n = k} (omega arith) in
          (omega (arith, limit_pos {K = K} (omega (arith, bounds)) (limit_at_is K (omega (arith, bounds)) k)), get_or-eq_default g 0 {n = D + 1 + k} (omega arith))

  pub inverse_by_test : InversePolynomial K φ D (wholes g)
  inverse_by_test =
      let (two, degree, free, top) = bounds in
      let k0 : 0 < K = omega arith in
      inverse_polynomial K φ two (λ y l. (valueℕ g y % K, mod-lt (valueℕ g y) k0, (position y l).1)) D (wholes g) (omega arith)
      (wholes_degree g D (λ _ z. omega arith) (λ k l. subst (λ (n : ℕ). get_or g n 0 ≡ 0) (omega arith) (place (k - (D + 1))).1))
      (wholes_place g 0 ∙ ap pos free)
      (undoes_wholes K φ g (λ x l. cong_mod K (valueℕ g (φ x)) ⨾ cong_eq (position x l).0))
      (λ k m L. (get_or g k 0, wholes_place g k, subst (λ (n : ℕ). get_or g k 0 < n) (limit_one k0 (limit_at_is K k0 k) L) (place k).0))

pub inverted_by_test : (K : ℕ) (φ : ℕ → ℕ) (D : ℕ) (a : List ℕ) → length a ≡ 13 → T (inverse_test K φ D (0 ∷ a)) → Inverted K φ D a
inverted_by_test K φ D a places t = inverted_from a places (inverse_by_test K φ D (0 ∷ a) t)
