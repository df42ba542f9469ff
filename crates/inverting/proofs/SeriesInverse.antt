-- The series undoes f, and f comes to every position: f(g(y)) is y by the Catalan numbers' equation, and f takes no two positions to
-- one, so that g(f(x)) is x.
use mathlib.Core.Path.{◌≡◌, refl, sym, ap, ◌∙◌}
use mathlib.Core.List.{List, ◌∷◌}
use Prim.Native.Nat.{ℕ, zero, suc, ◌+◌, ◌*◌, ◌-◌, ◌%◌, ◌^◌}
use native.Mathlib.Nat.{mod-lt, mod-eq_of_lt, le-mul_of_pos_right}
use native.Mathlib.Omega.{arith}
use lib.ListN.{get_or}
use Rattle.numbers.specs.Congruences.{Cong}
use Rattle.numbers.proofs.Divisors.{euclid}
use Rattle.numbers.proofs.Congruences.{cong_eq, cong_sym, ◌⨾◌, cong_add, cong_mul, cong_times, cong_cancel, cong_mod, cong_same, cong_zero, zero_cong, pow_times}
use Rattle.numbers.proofs.Reciprocals.{reciprocal_coprime}
use Rattle.numbers.proofs.Absorption.{power_absorbed, coprime_plus}
use Rattle.polynomials.specs.Polynomials.{wholes}
use Rattle.polynomials.specs.Inverses.{Undoes}
use Rattle.polynomials.proofs.Naturals.{valueℕ, scale, scale_place, scale_value, dilate, dilate_place, dilate_value, cong_value, cong_places}
use Rattle.polynomials.proofs.Inverses.{Onto, undoes_wholes}
use Rattle.inverting.specs.Series.{catalan, term, Series}
use Rattle.triples.specs.declared.Triple.{Triple}
use Rattle.triples.specs.Shuffles.{f}
use Rattle.inverting.specs.Invertible.{Invertible}
use Rattle.inverting.proofs.Catalan.{equation}

module _ {t : Triple} {r : ℕ} {s : List ℕ} (given : Invertible t r) (series : Series t.k t.f2 r s) where
  -- f before the remainder
  abbrev sum : ℕ → ℕ
  sum x = t.f1 * x + t.f2 * (x * x)

  cong_sum : {x y : ℕ} → Cong t.k x y → Cong t.k (sum x) (sum y)
  cong_sum c = cong_add (cong_times t.f1 c) (cong_times t.f2 (cong_mul c c))

  unit : Cong t.k (r * t.f1) 1
  unit = cong_mod t.k (r * t.f1) ⨾ cong_eq given.reciprocal.product

  -- ---- f(g(y)) is y

  abbrev b : ℕ
  b = t.f2 * (r * r)

  abbrev step : ℕ
  step = (t.k - 1) * b

  series_value : (y : ℕ) → Cong t.k (valueℕ s y) (y * (r * valueℕ catalan (step * y)))
  unfolding term
  series_value y =
      cong_places s (0 ∷ scale r (dilate step catalan)) y place
      ⨾ cong_eq (ap (λ (n : ℕ). 0 + y * n) (scale_value r (dilate step catalan) y ∙ ap (λ (n : ℕ). r * n) (dilate_value step catalan y)) ∙ omega arith)
    where
      place : (j : ℕ) → Cong t.k (get_or s j 0) (get_or (0 ∷ scale r (dilate step catalan)) j 0)
      place zero = series.terms 0
      place (suc j) =
          series.terms (suc j) ⨾ cong_eq (sym (scale_place r (dilate step catalan) j ∙ ap (λ (n : ℕ). r * n) (dilate_place step catalan j)))

  -- the thirteenth power of every multiple of f2 is 0
  nilpotent : (n : ℕ) → Cong t.k ((t.f2 * n) ^ 13) 0
  nilpotent n = cong_eq (pow_times t.f2 n 13) ⨾ cong_mul (zero_cong (t.f2 ^ 13) given.absorbed) (cong_eq {x = n ^ 13} refl) ⨾ cong_eq (omega arith)

  right : (y : ℕ) → Cong t.k (sum (valueℕ s y)) y
  right y =
      cong_sum (series_value y) ⨾ cong_eq (omega arith)
      ⨾ cong_add (cong_mul unit (cong_times y (equation (step * y) nil))) (cong_eq {x = rest} refl)
      ⨾ record { l = 0; r = rest; eq = omega (arith, ap (λ (n : ℕ). n * rest) one) }
    where
      C : ℕ
      C = valueℕ catalan (step * y)

      rest : ℕ
      rest = b * (y * y) * (C * C)

      nil : Cong t.k ((step * y) ^ 13) 0
      nil = cong_eq (ap (λ (n : ℕ). n ^ 13) (omega arith)) ⨾ nilpotent ((t.k - 1) * (r * r) * y)

      one : t.k - 1 + 1 ≡ t.k
      one = omega (arith, given.low)

  pub onto : Onto t.k (f t)
  onto y l =
      let g = valueℕ s y in
      (g % t.k, mod-lt g (omega arith), cong_same (cong_sum (cong_sym (cong_mod t.k g)) ⨾ right y) ∙ mod-eq_of_lt l)

  -- ---- g(f(x)) is x

  -- t.f1 + f2·n shares no factor with t.k, and the difference of two values is the difference of the positions times such a number
  injective : (x d : ℕ) → Cong t.k (sum (x + d)) (sum x) → Cong t.k (x + d) x
  injective x d c =
      cong_add (cong_eq {x = x} refl)
      (zero_cong d
      (euclid t.k (t.f1 + t.f2 * (2 * x + d)) d (coprime_plus (reciprocal_coprime given.reciprocal) (power_absorbed 13 t.k t.f2 given.absorbed) (2 * x + d))
      (cong_zero (cong_cancel (sum x) (cong_eq (omega arith) ⨾ c ⨾ cong_eq (omega arith))))))
      ⨾ cong_eq (omega arith)

  left : (x : ℕ) → Cong t.k (valueℕ s (sum x)) x
  left x =
      lift ⨾ cong_eq above ⨾ injective x (g + x * t.k - x) (cong_eq (ap sum (sym above)) ⨾ cong_sum (cong_sym lift) ⨾ right (sum x))
    where
      g : ℕ
      g = valueℕ s (sum x)

      -- with multiples of K, g is not below x
      lift : Cong t.k g (g + x * t.k)
      lift = record { l = x; r = 0; eq = omega arith }

      above : g + x * t.k ≡ x + (g + x * t.k - x)
      above = omega (arith, le-mul_of_pos_right {m = t.k} x (omega (arith, given.low)))

  pub undoes : Undoes t.k (f t) (wholes s)
  undoes = undoes_wholes t.k (f t) s (λ x l. cong_value s (cong_sym (cong_mod t.k (sum x))) ⨾ left x)
