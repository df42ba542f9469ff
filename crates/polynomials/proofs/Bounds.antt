-- The limit at a place: there is one, it is one number, it divides exactly the x for which K divides k!·x, and it comes of the limit
-- at the place before by one division.
use mathlib.Core.Path.{◌≡◌, sym, ap, subst, ◌∙◌}
use mathlib.Core.Logic.{◌↔◌}
use mathlib.Core.List.{List}
use Prim.Native.Nat.{ℕ, zero, suc, ◌+◌, ◌*◌, ◌-◌, ◌/◌, ◌<◌, ◌∣◌}
use native.Mathlib.Nat.{div-mul_cancel, dvd_refl, dvd-mul_right_of_dvd, one-dvd, mul_comm, mul-one, eq_of_mul-eq-mul_right, mul-pos}
use native.Mathlib.Omega.{arith}
use lib.ListN.{length, get_or, set}
use Rattle.numbers.specs.Divisors.{IsGcd, Coprime}
use Rattle.numbers.proofs.Divisors.{gcd_of, gcd_unique, gcd_parts, gcd_times, gcd_exact, euclid, coprime_dvd, factors_pos}
use Rattle.numbers.proofs.Lists.{filled_more}
use Rattle.polynomials.specs.Bounds.{factorial, Limit}
use Rattle.polynomials.specs.Reductions.{Limits}

pub factorial_pos : (k : ℕ) → 0 < factorial k
factorial_pos zero = omega arith
factorial_pos (suc k) = mul-pos {m = suc k} (omega arith) (factorial_pos k)

module _ {K : ℕ} (pos : 0 < K) where
  pub limit_of : (k : ℕ) → (m : ℕ) × Limit K k m
  limit_of k =
      let (g, is) = gcd_of K (factorial k) pos in (K / g, record { divisor = g; is_gcd = is; product = div-mul_cancel g is.left })

  limit_parts : {k m : ℕ} (L : Limit K k m) → (0 < m) × (0 < L.divisor)
  limit_parts {k} {m} L = factors_pos K m L.divisor pos (sym L.product)

  pub limit_pos : {k m : ℕ} → Limit K k m → 0 < m
  limit_pos L = (limit_parts L).0

  pub limit_one : {k m n : ℕ} → Limit K k m → Limit K k n → m ≡ n
  limit_one {k} {m} {n} L M =
      eq_of_mul-eq-mul_right L.divisor (limit_parts L).1 m n
      (L.product ∙ sym M.product ∙ ap (λ (t : ℕ). n * t) (gcd_unique K (factorial k) M.divisor L.divisor M.is_gcd L.is_gcd))

  pub limit_exact : {k m : ℕ} → Limit K k m → (x : ℕ) → (K ∣ factorial k * x) ↔ (m ∣ x)
  limit_exact {k} {m} L x = gcd_exact K (factorial k) L.divisor m x pos L.is_gcd L.product

  pub limit_first : Limit K 0 K
  limit_first =
      record {
        divisor = 1;
        is_gcd = record { left = one-dvd K; right = dvd_refl 1; greatest = λ d p q. q };
        product = mul-one K;
      }

  limit_suc : (k m g : ℕ) → Limit K k m → IsGcd m (suc k) g → Limit K (suc k) (m / g)
  limit_suc k m g L is =
      record {
        divisor = d * g;
        is_gcd =
            subst (λ (t : ℕ). IsGcd t (suc k * factorial k) (d * g)) (mul_comm d m ∙ L.product)
            (subst (λ (t : ℕ). IsGcd (d * m) t (d * g)) (omega (arith, ap (λ (t : ℕ). suc k * t) left_over))
            (gcd_times d m (suc k * u) g (limit_pos L) (mul-pos {m = suc k} (omega arith) positive) common));
        product = omega (arith, ap (λ (t : ℕ). t * d) (div-mul_cancel g is.left), L.product);
      }
    where
      d : ℕ
      d = L.divisor

      u : ℕ
      u = factorial k / d

      left_over : u * d ≡ factorial k
      left_over = div-mul_cancel d L.is_gcd.right

      positive : 0 < u
      positive = (factors_pos (factorial k) u d (factorial_pos k) (sym left_over)).0

      coprime : Coprime m u
      coprime = gcd_parts K (factorial k) d m u (limit_parts L).1 L.is_gcd L.product left_over

      common : IsGcd m (suc k * u) g
      common =
          record {
            left = is.left;
            right = dvd-mul_right_of_dvd g is.right u;
            greatest = λ e p q. is.greatest e p (euclid e u (suc k) (coprime_dvd e p coprime) (subst (λ (t : ℕ). e ∣ t) (mul_comm (suc k) u) q));
          }

  -- what (k - 1)! has in common with K is gone from the limit before, so that only k counts
  pub limit_next : (k m g : ℕ) → 0 < k → Limit K (k - 1) m → IsGcd m k g → Limit K k (m / g)
  limit_next zero m g k0 L is = absurd (omega arith)
  limit_next (suc k) m g k0 L is = limit_suc k m g (subst (λ (i : ℕ). Limit K i m) (omega arith) L) is

  -- so one more limit stands, once it is put at its place
  pub limits_more : (m : List ℕ) (j g : ℕ) → 0 < j → j < length m → Limits K j m → IsGcd (get_or m (j - 1) 0) j g → Limits K (j + 1) (set m j (get_or m (j - 1) 0 / g))
  limits_more m j g j0 room before is = filled_more (λ (i x : ℕ). Limit K i x) m j _ room before (limit_next j _ g j0 (before (j - 1) (omega arith)) is)
