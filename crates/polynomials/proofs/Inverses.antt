-- What makes a polynomial the inverse of a map that comes to every position; that there is only one, as a polynomial and as a degree and
-- thirteen places.
use mathlib.Core.Path.{◌≡◌, refl, sym, ap, subst, ◌∙◌}
use mathlib.Core.List.{List, [], ◌∷◌}
use Prim.Native.Nat.{ℕ, zero, suc, ◌+◌, ◌≤◌, ◌<◌}
use native.Mathlib.Omega.{arith}
use native.Mathlib.Decide.{dec_lt}
use lib.ListN.{length}
use lib.Seq.{ext_get_or}
use lib.IntN.{ℤ, pos, ◌+ℤ◌, ◌*ℤ◌, *ℤ-zero}
use Rattle.numbers.specs.Congruences.{Cong}
use Rattle.numbers.proofs.Congruences.{cong_small}
use Rattle.polynomials.specs.Polynomials.{value, coefficient, wholes, Below, Congruent}
use Rattle.polynomials.specs.Bounds.{Within}
use Rattle.polynomials.specs.Reductions.{Agree, Reduced, Degree}
use Rattle.polynomials.specs.Inverses.{Undoes, InversePolynomial, from_first, Inverted}
use Rattle.polynomials.proofs.Differences.{positive, congruent_pos, natural_pos, congruent_sym, congruent_trans}
use Rattle.polynomials.proofs.Naturals.{valueℕ, wholes_place, wholes_value}
use Rattle.polynomials.proofs.Degrees.{agree_everywhere, least_degree, unique}

-- ---- undoing

pub undoes_wholes : (K : ℕ) (φ : ℕ → ℕ) (p : List ℕ) → ((x : ℕ) → x < K → Cong K (valueℕ p (φ x)) x) → Undoes K φ (wholes p)
undoes_wholes K φ p h x l = subst (λ (z : ℤ). Congruent K z (pos x)) (sym (wholes_value p (φ x))) (congruent_pos (h x l))

pub undoes_reduced : (K : ℕ) (φ : ℕ → ℕ) (p q : List ℤ) → 0 < K → Reduced K p q → Undoes K φ p → Undoes K φ q
undoes_reduced K φ p q k0 r u x l = congruent_trans (congruent_sym (agree_everywhere K k0 p q r.same (φ x))) (u x l)

pub undoes_same : (K : ℕ) (φ ψ : ℕ → ℕ) (g : List ℤ) → ((x : ℕ) → x < K → φ x ≡ ψ x) → Undoes K φ g → Undoes K ψ g
undoes_same K φ ψ g same u x l = subst (λ (y : ℕ). Congruent K (value g (pos y)) (pos x)) (same x l) (u x l)

-- ---- the inverse

-- φ comes to every position
abbrev pub Onto : ℕ → (ℕ → ℕ) → Type 0
Onto K φ = (y : ℕ) → y < K → (x : ℕ) × (x < K) × (φ x ≡ y)

value_zero : (p : List ℤ) (y : ℤ) → Below 0 p → value p y ≡ pos 0
value_zero [] y z = refl
value_zero (a ∷ p) y z =
    ap (λ (t : ℤ). t +ℤ y *ℤ value p y) (z 0 (omega arith))
    ∙ ap (λ (t : ℤ). pos 0 +ℤ y *ℤ t) (value_zero p y (λ k l. z (suc k) (omega arith)))
    ∙ ap (λ (t : ℤ). pos 0 +ℤ t) (*ℤ-zero y)

module _ (K : ℕ) (φ : ℕ → ℕ) (two : 1 < K) (onto : Onto K φ) where
  agree_undoing : (g h : List ℤ) → Undoes K φ g → Undoes K φ h → Agree K g h
  agree_undoing g h u v y l =
      let (x, lx, e) = onto y l in
      subst (λ (z : ℕ). Congruent K (value g (pos z)) (value h (pos z))) e (congruent_trans (u x lx) (congruent_sym (v x lx)))

  -- nothing but zeros does not tell 0 from 1
  degree_pos : (g : List ℤ) (D : ℕ) → coefficient g 0 ≡ pos 0 → Below (D + 1) g → Undoes K φ g → 0 < D
  degree_pos g zero free past u = absurd (omega (arith, zero_is_one))
    where
      zeros : Below 0 g
      zeros zero l = free
      zeros (suc k) l = past (suc k) (omega arith)

      zero_is_one : ◌≡◌ {A = ℕ} 0 1
      zero_is_one =
          cong_small (natural_pos (subst (λ (z : ℤ). Congruent K z (pos 1)) (value_zero g (pos (φ 1)) zeros) (u 1 two))) (omega arith) two
  degree_pos g (suc D) free past u = omega arith

  pub inverse_polynomial : (D : ℕ) (g : List ℤ) → D ≤ 13 → Degree g D → coefficient g 0 ≡ pos 0 → Undoes K φ g → Within K g → InversePolynomial K φ D g
  inverse_polynomial D g high degree free u within =
      record {
        low = low;
        high = high;
        top = degree.top low;
        past = degree.past;
        free = free;
        undoes = u;
        within = within;
        least = λ h v below. least_degree K (omega arith) g h within (agree_undoing g h u v) D degree.past (degree.top low) below;
        only = λ h _ within_h v. unique K (omega arith) h g within_h (agree_undoing h g v u) within;
      }
    where
      low : 0 < D
      low = degree_pos g D free degree.past u

-- ---- it is one

module _ {K : ℕ} {φ : ℕ → ℕ} where
  not_lower : {D E : ℕ} {g h : List ℤ} → InversePolynomial K φ D g → InversePolynomial K φ E h → D < E → ⊥
  not_lower {D} {E} {g} {h} a b l = b.top (a.only h b.free b.within b.undoes E ∙ a.past E (omega arith))

  pub inverse_one : {D E : ℕ} {g h : List ℤ} → InversePolynomial K φ D g → InversePolynomial K φ E h
      → (D ≡ E) × ((k : ℕ) → coefficient g k ≡ coefficient h k)
  inverse_one {D} {E} {g} {h} a b = (same (dec_lt D E) (dec_lt E D), b.only g a.free a.within a.undoes)
    where
      same : Dec (D < E) → Dec (E < D) → D ≡ E
      same (yes l) d = absurd (not_lower a b l)
      same (no n) (yes l) = absurd (not_lower b a l)
      same (no n) (no m) = omega arith

-- ---- it depends on the map's values alone

pub inverse_same : {K D : ℕ} {g : List ℤ} (φ ψ : ℕ → ℕ) → ((x : ℕ) → x < K → φ x ≡ ψ x) → InversePolynomial K φ D g → InversePolynomial K ψ D g
inverse_same {K} {D} {g} φ ψ same a =
    record {
      low = a.low;
      high = a.high;
      top = a.top;
      past = a.past;
      free = a.free;
      undoes = undoes_same K φ ψ g same a.undoes;
      within = a.within;
      least = λ h u. a.least h (back h u);
      only = λ h free within u. a.only h free within (back h u);
    }
  where
    back : (h : List ℤ) → Undoes K ψ h → Undoes K φ h
    back h = undoes_same K ψ φ h (λ x l. sym (same x l))

-- ---- as a degree and thirteen places

-- past the degree the coefficients are 0
pub inverted_from : {K : ℕ} {φ : ℕ → ℕ} {D : ℕ} (a : List ℕ) → length a ≡ 13 → InversePolynomial K φ D (from_first a) → Inverted K φ D a
inverted_from a places inverse =
    record {
      places = places;
      polynomial = inverse;
      rest = λ j l. ap positive (sym (wholes_place a j) ∙ inverse.past (suc j) (omega arith));
    }

pub inverted_one : {K : ℕ} {φ : ℕ → ℕ} {D E : ℕ} {a b : List ℕ} → Inverted K φ D a → Inverted K φ E b → (D ≡ E) × (a ≡ b)
inverted_one {a = a} {b = b} p q =
    let (degrees, coefficients) = inverse_one p.polynomial q.polynomial in
    (degrees, ext_get_or 0 a b (p.places ∙ sym q.places) (λ j _. ap positive (sym (wholes_place a j) ∙ coefficients (suc j) ∙ wholes_place b j)))

pub inverted_same : {K : ℕ} {D : ℕ} {a : List ℕ} (φ ψ : ℕ → ℕ) → ((x : ℕ) → x < K → φ x ≡ ψ x) → Inverted K φ D a → Inverted K ψ D a
inverted_same {a = a} φ ψ same p = inverted_from a p.places (inverse_same φ ψ same p.polynomial)
