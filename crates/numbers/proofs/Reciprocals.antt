-- The reciprocal modulo k: it is one number, what has one shares nothing with k, and Euclid's algorithm finds it by multipliers.
use mathlib.Core.Path.{◌≡◌, refl, sym, ap, subst, ◌∙◌}
use mathlib.Core.Logic.{◌≢◌}
use Prim.Native.Nat.{ℕ, ◌+◌, ◌*◌, ◌-◌, ◌/◌, ◌%◌, ◌≤◌, ◌<◌, ◌∣◌}
use native.Mathlib.Nat.{mod-add-div', mod-lt, mod-eq_of_lt, mul-one, dvd-mod_iff, dvd_refl, dvd-zero, dvd-mul_left_of_dvd, eq-one_of_dvd-one}
use native.Mathlib.Omega.{arith}
use Rattle.numbers.specs.Divisors.{Coprime}
use Rattle.numbers.specs.Congruences.{Cong}
use Rattle.numbers.specs.Reciprocals.{Reciprocal}
use Rattle.numbers.proofs.Congruences.{cong_eq, cong_sym, ◌⨾◌, cong_add, cong_mul, cong_cancel, cong_mod, cong_same, cong_small}

pub reciprocal_one : (k a r s : ℕ) → Reciprocal k a r → Reciprocal k a s → r ≡ s
reciprocal_one k a r s p q = cong_small (alone r s p q ⨾ cong_eq (omega arith) ⨾ cong_sym (alone s r q p)) p.below q.below
  where
    -- u is u·(v·a)
    alone : (u v : ℕ) → Reciprocal k a u → Reciprocal k a v → Cong k u (u * (v * a))
    alone u v hu hv =
        cong_eq (sym (mul-one u)) ⨾ cong_mul {x = u} (cong_eq refl) (cong_eq (sym hv.product) ⨾ cong_sym (cong_mod k (v * a)))

-- what has a reciprocal shares nothing with k
pub reciprocal_coprime : {k a r : ℕ} → Reciprocal k a r → Coprime a k
reciprocal_coprime {k} {a} {r} h d p q =
    eq-one_of_dvd-one (subst (λ (n : ℕ). d ∣ n) h.product ((dvd-mod_iff d q).1 (dvd-mul_left_of_dvd d p r)))

-- ---- Euclid's algorithm with multipliers

-- each of two remainders in a row comes, up to multiples of k, of multiplying a by its multiplier
pub record Multipliers (k a upper upper_by lower lower_by : ℕ) : Type 0 where
  pub upper_is : Cong k (upper_by * a) upper
  pub lower_is : Cong k (lower_by * a) lower
  pub upper_by_lt : upper_by < k
  pub lower_by_lt : lower_by < k
  pub upper_le : upper ≤ k
  pub lower_le : lower ≤ k
  pub coprime : Coprime upper lower

pub multipliers_step : (k a u ub l lb : ℕ) → Multipliers k a u ub l lb → l ≢ 0 → Multipliers k a l lb (u % l) ((ub + u / l * (k - lb)) % k)
multipliers_step k a u ub l lb m ne =
    record {
      upper_is = m.lower_is;
      lower_is =
          cong_mul (cong_sym (cong_mod k (ub + u / l * (k - lb)))) (cong_eq {x = a} refl)
          ⨾ cong_cancel (u / l * l) (cong_add (cong_sym (cong_mul {x = u / l} (cong_eq refl) m.lower_is)) (cong_eq refl) ⨾ spread ⨾ m.upper_is ⨾ cong_eq (omega (arith, mod-add-div' u l)));
      upper_by_lt = m.lower_by_lt;
      lower_by_lt = mod-lt (ub + u / l * (k - lb)) (omega (arith, m.upper_by_lt));
      upper_le = m.lower_le;
      lower_le = omega (arith, m.lower_le, mod-lt u {m = l} (omega arith));
      coprime = λ d p q. m.coprime d ((dvd-mod_iff d p).0 q) p;
    }
  where
    -- what is taken away as k - lb comes back with multiples of k
    spread : Cong k (u / l * (lb * a) + (ub + u / l * (k - lb)) * a) (ub * a)
    spread =
        let e : k - lb + lb ≡ k = omega (arith, m.lower_by_lt) in
        record { l = 0; r = u / l * a; eq = omega (arith, ap (λ (t : ℕ). u / l * t * a) e) }

pub multipliers_end : (k a u ub l lb : ℕ) → 1 < k → Multipliers k a u ub l lb → l ≡ 0 → Reciprocal k a ub
multipliers_end k a u ub l lb h m z =
    record {
      below = m.upper_by_lt;
      product = cong_same (m.upper_is ⨾ cong_eq one) ∙ mod-eq_of_lt h;
    }
  where
    one : u ≡ 1
    one = m.coprime u (dvd_refl u) (subst (λ (n : ℕ). u ∣ n) (sym z) (dvd-zero u))
