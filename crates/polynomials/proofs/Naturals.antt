-- Polynomials with natural coefficients: their sums and multiples, and congruent ones. A whole polynomial is the difference of two.
use mathlib.Core.Path.{◌≡◌, refl, sym, ap, subst₂, ◌∙◌}
use mathlib.Core.Logic.{◌≢◌, by_cases}
use mathlib.Core.List.{List, [], ◌∷◌, map}
use Prim.Native.Nat.{ℕ, zero, suc, ◌+◌, ◌*◌, ◌^◌, ◌≤◌, ◌<◌}
use native.Mathlib.Nat.{pow-zero, pow-suc}
use native.Mathlib.Omega.{arith}
use native.Mathlib.Decide.{dec_lt}
use lib.ListN.{length, get_or, take, drop, length-take, get_or-map, get_or-eq_default}
use lib.Seq.{get_or-take, length-take-le}
use lib.IntN.{ℤ, pos, ◌+ℤ◌, ◌*ℤ◌}
use Rattle.std.proofs.Common.{Option, Some, None, MatchOption, unwrap_or, EachIndex, slice_index}
use Rattle.numbers.specs.Congruences.{Cong}
use Rattle.numbers.proofs.Congruences.{cong_eq, cong_sym, cong_add, cong_mul, cong_times, ◌⨾◌}
use Rattle.polynomials.specs.Polynomials.{value, coefficient, wholes, Congruent}
use Rattle.polynomials.specs.Reductions.{Ends, Degree}
use Rattle.polynomials.proofs.Differences.{positive, negative, Difference, parts, difference_add, difference_mul, congruent_pos}

abbrev pub valueℕ : List ℕ → ℕ → ℕ
valueℕ [] y = 0
valueℕ (a ∷ p) y = a + y * valueℕ p y

-- ---- sums and multiples

unfoldable pub add : List ℕ → List ℕ → List ℕ
add [] q = q
add (a ∷ p) [] = a ∷ p
add (a ∷ p) (b ∷ q) = (a + b) ∷ add p q

pub add_place : (p q : List ℕ) (k : ℕ) → get_or (add p q) k 0 ≡ get_or p k 0 + get_or q k 0
unfolding add
add_place [] q k = omega arith
add_place (a ∷ p) [] zero = omega arith
add_place (a ∷ p) [] (suc k) = omega arith
add_place (a ∷ p) (b ∷ q) zero = refl
add_place (a ∷ p) (b ∷ q) (suc k) = add_place p q k

pub add_value : (p q : List ℕ) (y : ℕ) → valueℕ (add p q) y ≡ valueℕ p y + valueℕ q y
unfolding add
add_value [] q y = omega arith
add_value (a ∷ p) [] y = omega arith
add_value (a ∷ p) (b ∷ q) y = ap (λ (t : ℕ). a + b + y * t) (add_value p q y) ∙ omega arith

unfoldable pub scale : ℕ → List ℕ → List ℕ
scale c [] = []
scale c (a ∷ p) = (c * a) ∷ scale c p

pub scale_place : (c : ℕ) (p : List ℕ) (k : ℕ) → get_or (scale c p) k 0 ≡ c * get_or p k 0
unfolding scale
scale_place c [] k = omega arith
scale_place c (a ∷ p) zero = refl
scale_place c (a ∷ p) (suc k) = scale_place c p k

pub scale_value : (c : ℕ) (p : List ℕ) (y : ℕ) → valueℕ (scale c p) y ≡ c * valueℕ p y
unfolding scale
scale_value c [] y = omega arith
scale_value c (a ∷ p) y = omega (arith, ap (λ (t : ℕ). y * t) (scale_value c p y))

-- p + c·q
unfoldable pub plus : List ℕ → ℕ → List ℕ → List ℕ
plus p c q = add p (scale c q)

pub plus_place : (p : List ℕ) (c : ℕ) (q : List ℕ) (k : ℕ) → get_or (plus p c q) k 0 ≡ get_or p k 0 + c * get_or q k 0
unfolding plus
plus_place p c q k = add_place p (scale c q) k ∙ ap (λ (t : ℕ). get_or p k 0 + t) (scale_place c q k)

pub plus_value : (p : List ℕ) (c : ℕ) (q : List ℕ) (y : ℕ) → valueℕ (plus p c q) y ≡ valueℕ p y + c * valueℕ q y
unfolding plus
plus_value p c q y = add_value p (scale c q) y ∙ ap (λ (t : ℕ). valueℕ p y + t) (scale_value c q y)

-- ---- products, p(c·y), and the terms before and from the place n on

unfoldable pub multiply : List ℕ → List ℕ → List ℕ
multiply [] q = []
multiply (a ∷ p) q = add (scale a q) (0 ∷ multiply p q)

pub multiply_value : (p q : List ℕ) (y : ℕ) → valueℕ (multiply p q) y ≡ valueℕ p y * valueℕ q y
unfolding multiply
multiply_value [] q y = omega arith
multiply_value (a ∷ p) q y =
    add_value (scale a q) (0 ∷ multiply p q) y ∙ omega (arith, scale_value a q y, ap (λ (t : ℕ). y * t) (multiply_value p q y))

unfoldable pub dilate : ℕ → List ℕ → List ℕ
dilate c [] = []
dilate c (a ∷ p) = a ∷ scale c (dilate c p)

pub dilate_place : (c : ℕ) (p : List ℕ) (k : ℕ) → get_or (dilate c p) k 0 ≡ c ^ k * get_or p k 0
unfolding dilate
dilate_place c [] k = omega arith
dilate_place c (a ∷ p) zero = omega (arith, ap (λ (t : ℕ). t * a) (pow-zero c))
dilate_place c (a ∷ p) (suc k) =
    scale_place c (dilate c p) k ∙ ap (λ (t : ℕ). c * t) (dilate_place c p k)
    ∙ omega (arith, ap (λ (t : ℕ). t * get_or p k 0) (pow-suc c k))

pub dilate_value : (c : ℕ) (p : List ℕ) (y : ℕ) → valueℕ (dilate c p) y ≡ valueℕ p (c * y)
unfolding dilate
dilate_value c [] y = refl
dilate_value c (a ∷ p) y =
    ap (λ (t : ℕ). a + y * t) (scale_value c (dilate c p) y ∙ ap (λ (t : ℕ). c * t) (dilate_value c p y)) ∙ omega arith

pub cut_value : (n : ℕ) (p : List ℕ) (y : ℕ) → valueℕ p y ≡ valueℕ (take n p) y + y ^ n * valueℕ (drop n p) y
cut_value zero p y = omega (arith, ap (λ (t : ℕ). t * valueℕ p y) (pow-zero y))
cut_value (suc n) [] y = omega arith
cut_value (suc n) (a ∷ p) y =
    ap (λ (t : ℕ). a + y * t) (cut_value n p y) ∙ omega (arith, ap (λ (t : ℕ). t * valueℕ (drop n p) y) (pow-suc y n))

-- ---- congruence

module _ {K : ℕ} where
  -- at congruent numbers
  pub cong_value : (p : List ℕ) {x y : ℕ} → Cong K x y → Cong K (valueℕ p x) (valueℕ p y)
  cong_value [] c = cong_eq refl
  cong_value (a ∷ p) c = cong_add (cong_eq refl) (cong_mul c (cong_value p c))

  -- of congruent coefficients
  pub cong_places : (p q : List ℕ) (y : ℕ) → ((k : ℕ) → Cong K (get_or p k 0) (get_or q k 0)) → Cong K (valueℕ p y) (valueℕ q y)
  cong_places [] [] y h = cong_eq refl
  cong_places [] (b ∷ q) y h = cong_eq (omega arith) ⨾ cong_add (h 0) (cong_times y (cong_places [] q y (λ k. h (suc k))))
  cong_places (a ∷ p) [] y h = cong_add (h 0) (cong_times y (cong_places p [] y (λ k. h (suc k)))) ⨾ cong_eq (omega arith)
  cong_places (a ∷ p) (b ∷ q) y h = cong_add (h 0) (cong_times y (cong_places p q y (λ k. h (suc k))))

  -- of coefficients that are congruent before the place n, at a number whose n-th power is 0
  pub cong_before : (n : ℕ) (p q : List ℕ) (y : ℕ) → Cong K (y ^ n) 0 → ((k : ℕ) → k < n → Cong K (get_or p k 0) (get_or q k 0)) → Cong K (valueℕ p y) (valueℕ q y)
  cong_before n p q y z h = before p ⨾ cong_places (take n p) (take n q) y (λ k. place k (dec_lt k n)) ⨾ cong_sym (before q)
    where
      before : (p : List ℕ) → Cong K (valueℕ p y) (valueℕ (take n p) y)
      before p =
          cong_eq (cut_value n p y) ⨾ cong_add (cong_eq {x = valueℕ (take n p) y} refl) (cong_mul z (cong_eq {x = valueℕ (drop n p) y} refl))
          ⨾ cong_eq (omega arith)

      after : (p : List ℕ) (k : ℕ) → n ≤ k → get_or (take n p) k 0 ≡ 0
      after p k l = get_or-eq_default (take n p) 0 {n = k} (simp length-take (omega arith))

      place : (k : ℕ) → Dec (k < n) → Cong K (get_or (take n p) k 0) (get_or (take n q) k 0)
      place k (yes l) = cong_eq (get_or-take n p k 0 l) ⨾ h k l ⨾ cong_eq (sym (get_or-take n q k 0 l))
      place k (no l) = cong_eq (after p k (omega arith) ∙ sym (after q k (omega arith)))

-- ---- whole coefficients

pub wholes_place : (p : List ℕ) (k : ℕ) → coefficient (wholes p) k ≡ pos (get_or p k 0)
wholes_place p k = get_or-map pos p k 0

pub wholes_value : (p : List ℕ) (y : ℕ) → value (wholes p) (pos y) ≡ pos (valueℕ p y)
wholes_value [] y = refl
wholes_value (a ∷ p) y = ap (λ (t : ℤ). pos a +ℤ pos y *ℤ t) (wholes_value p y)

pub wholes_congruent : {K : ℕ} (p q : List ℕ) (x y : ℕ) → Cong K (valueℕ p x) (valueℕ q y) → Congruent K (value (wholes p) (pos x)) (value (wholes q) (pos y))
wholes_congruent {K} p q x y c = subst₂ (λ (s t : ℤ). Congruent K s t) (sym (wholes_value p x)) (sym (wholes_value q y)) (congruent_pos c)

pub wholes_degree : (p : List ℕ) (D : ℕ) → (0 < D → get_or p D 0 ≢ 0) → Ends D p → Degree (wholes p) D
wholes_degree p D top past =
    record {
      top = λ h e. top h (ap positive (sym (wholes_place p D) ∙ e));
      past = λ k l. wholes_place p k ∙ ap pos (past k (omega arith));
    }

-- of a list, the last place that is not 0
abbrev pub LastPlace : List ℕ → Option ℕ → Type 0
LastPlace xs o = MatchOption o (EachIndex xs (λ k. slice_index xs k ≡ 0))
    (λ d. (d < length xs) × (slice_index xs d ≢ 0) × ((k : ℕ) → d < k → k < length xs → slice_index xs k ≡ 0))

-- it is the degree, if nothing stands past the places that are looked at
pub last_degree : (p : List ℕ) (top : ℕ) (o : Option ℕ) → top < length p → Ends top p → LastPlace (take (top + 1) p) o
    → Degree (wholes p) (unwrap_or o 0) × (unwrap_or o 0 ≤ top)
last_degree p top o room ends found = go o found
  where
    size : length (take (top + 1) p) ≡ top + 1
    size = length-take-le (top + 1) p (omega arith)

    zero_past : (d : ℕ) → ((k : ℕ) → d < k → k < top + 1 → get_or (take (top + 1) p) k 0 ≡ 0) → Ends d p
    zero_past d none k l = by_cases (dec_lt k (top + 1)) (λ h. sym (get_or-take (top + 1) p k 0 h) ∙ none k l h) (λ h. ends k (omega arith))

    go : (o : Option ℕ) → LastPlace (take (top + 1) p) o → Degree (wholes p) (unwrap_or o 0) × (unwrap_or o 0 ≤ top)
    go None none = (wholes_degree p 0 (λ h. absurd (omega arith)) (zero_past 0 (λ k l h. none k (omega (arith, size)))), omega arith)
    go (Some d) (within, here, none) =
        (wholes_degree p d (λ h e. here (get_or-take (top + 1) p d 0 (omega (arith, size)) ∙ e)) (zero_past d (λ k l h. none k l (omega (arith, size)))), omega (arith, size))

-- ---- both parts of whole coefficients

abbrev pub positives : List ℤ → List ℕ
positives = map positive

abbrev pub negatives : List ℤ → List ℕ
negatives = map negative

pub part_place : (part : ℤ → ℕ) (p : List ℤ) (k : ℕ) → get_or (map part p) k (part (pos 0)) ≡ part (coefficient p k)
part_place part p k = get_or-map part p k (pos 0)

pub value_difference : (p : List ℤ) (y : ℕ) → Difference (value p (pos y)) (valueℕ (positives p) y) (valueℕ (negatives p) y)
value_difference [] y = omega arith
value_difference (a ∷ p) y = record { is = omega (arith, difference_add (parts a) (difference_mul (parts (pos y)) (value_difference p y))) }
