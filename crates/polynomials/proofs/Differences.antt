-- A whole number as a difference of two natural ones: linear arithmetic of natural numbers then proves what is true of whole ones.
use mathlib.Core.Path.{◌≡◌, refl, ap, subst}
use mathlib.Core.Bool.{Bool, true, false, not, cond}
use Prim.Native.Nat.{ℕ, zero, suc, ◌+◌, ◌*◌, ◌-◌, ◌≤◌, ◌<◌}
use native.Mathlib.Omega.{arith}
use lib.Dec.{T, ltb, ltb→lt, nltb→le}
use lib.IntN.{ℤ, pos, negsuc, ◌+ℤ◌, ◌*ℤ◌, neg_ℤ, sub_ℕ}
use Rattle.numbers.specs.Congruences.{Cong}
use Rattle.polynomials.specs.Polynomials.{Congruent}

abbrev pub positive : ℤ → ℕ
positive (pos n) = n
positive (negsuc n) = 0

abbrev pub negative : ℤ → ℕ
negative (pos n) = 0
negative (negsuc n) = suc n

-- x is a - b
pub record Difference (x : ℤ) (a b : ℕ) : Type 0 where
  pub is : positive x + b ≡ a + negative x

pub parts : (x : ℤ) → Difference x (positive x) (negative x)
parts x = record { is = refl }

-- ---- sums, products and equality

by_test : (c : Bool) (x y : ℤ) (Q : ℤ → Type 0) → (T c → Q x) → (T (not c) → Q y) → Q (cond c x y)
by_test true x y Q f g = f tt
by_test false x y Q f g = g tt

difference_sub : (a b : ℕ) → Difference (sub_ℕ a b) a b
difference_sub a b =
    by_test (ltb a b) (negsuc (b - suc a)) (pos (a - b)) (λ z. Difference z a b)
    (λ t. let h : a < b = ltb→lt a b t in omega arith)
    (λ t. let h : b ≤ a = nltb→le a b t in omega arith)

negated : (n : ℕ) → Difference (neg_ℤ (pos n)) 0 n
negated zero = record { is = refl }
negated (suc n) = record { is = omega arith }

difference_neg : {x : ℤ} {a b : ℕ} → Difference x a b → Difference (neg_ℤ x) b a
difference_neg {x = pos n} d = omega (arith, negated n)
difference_neg {x = negsuc n} d = omega arith

sum_parts : (x y : ℤ) → Difference (x +ℤ y) (positive x + positive y) (negative x + negative y)
sum_parts (pos a) (pos b) = omega arith
sum_parts (pos a) (negsuc b) = omega (arith, difference_sub a (suc b))
sum_parts (negsuc a) (pos b) = omega (arith, difference_sub b (suc a))
sum_parts (negsuc a) (negsuc b) = omega arith

product_parts : (x y : ℤ) → Difference (x *ℤ y) (positive x * positive y + negative x * negative y) (positive x * negative y + negative x * positive y)
product_parts (pos a) (pos b) = omega arith
product_parts (pos a) (negsuc b) = omega (arith, negated (a * suc b))
product_parts (negsuc a) (pos b) = omega (arith, negated (suc a * b))
product_parts (negsuc a) (negsuc b) = omega arith

pub difference_add : {x y : ℤ} {a b c d : ℕ} → Difference x a b → Difference y c d → Difference (x +ℤ y) (a + c) (b + d)
difference_add {x} {y} e f = omega (arith, sum_parts x y)

pub difference_mul : {x y : ℤ} {a b c d : ℕ} → Difference x a b → Difference y c d → Difference (x *ℤ y) (a * c + b * d) (a * d + b * c)
difference_mul {x} {y} {a} {b} e f =
    let u = ap (λ (t : ℕ). t * positive y) e.is in
    let v = ap (λ (t : ℕ). t * negative y) e.is in
    let w = ap (λ (t : ℕ). a * t) f.is in
    let z = ap (λ (t : ℕ). b * t) f.is in
    omega (arith, product_parts x y)

equal_parts : (x y : ℤ) → positive x + negative y ≡ positive y + negative x → x ≡ y
equal_parts (pos a) (pos b) e = ap pos (omega arith)
equal_parts (pos a) (negsuc b) e = absurd (omega arith)
equal_parts (negsuc a) (pos b) e = absurd (omega arith)
equal_parts (negsuc a) (negsuc b) e = ap negsuc (omega arith)

difference_equal : {x y : ℤ} {a b c d : ℕ} → Difference x a b → Difference y c d → a + d ≡ c + b → x ≡ y
difference_equal {x} {y} e f g = equal_parts x y (omega arith)

difference_one : {x : ℤ} {a b c d : ℕ} → Difference x a b → Difference x c d → a + d ≡ c + b
difference_one e f = omega arith

-- ---- congruence of whole numbers is one of natural numbers

module _ (K : ℕ) {x y : ℤ} {a b c d : ℕ} (e : Difference x a b) (f : Difference y c d) where
  pub congruent : Cong K (a + d) (c + b) → Congruent K x y
  congruent g =
      record {
        times = sub_ℕ g.r g.l;
        difference =
            difference_equal (difference_add e (difference_neg f)) (difference_mul (difference_sub g.r g.l) (parts (pos K))) (omega (arith, g.eq));
      }

  pub natural : Congruent K x y → Cong K (a + d) (c + b)
  natural g =
      record {
        l = negative g.times;
        r = positive g.times;
        eq = omega (arith, difference_one (difference_mul (parts g.times) (parts (pos K))) same);
      }
    where
      same : Difference (g.times *ℤ pos K) (a + d) (b + c)
      same = subst (λ (z : ℤ). Difference z (a + d) (b + c)) g.difference (difference_add e (difference_neg f))

module _ {K : ℕ} where
  pub congruent_pos : {a b : ℕ} → Cong K a b → Congruent K (pos a) (pos b)
  congruent_pos {a} {b} g = congruent K (parts (pos a)) (parts (pos b)) (record { l = g.l; r = g.r; eq = omega (arith, g.eq) })

  pub natural_pos : {a b : ℕ} → Congruent K (pos a) (pos b) → Cong K a b
  natural_pos {a} {b} g =
      let n = natural K (parts (pos a)) (parts (pos b)) g in record { l = n.l; r = n.r; eq = omega (arith, n.eq) }

  pub congruent_sym : {x y : ℤ} → Congruent K x y → Congruent K y x
  congruent_sym {x} {y} g =
      let n = natural K (parts x) (parts y) g in
      congruent K (parts y) (parts x) (record { l = n.r; r = n.l; eq = omega (arith, n.eq) })

  pub congruent_trans : {x y z : ℤ} → Congruent K x y → Congruent K y z → Congruent K x z
  congruent_trans {x} {y} {z} g h =
      let n = natural K (parts x) (parts y) g in
      let o = natural K (parts y) (parts z) h in
      congruent K (parts x) (parts z) (record { l = n.l + o.l; r = n.r + o.r; eq = omega (arith, n.eq, o.eq) })
