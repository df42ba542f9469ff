-- The spread and the spread along the line. Round the circle it is never above, whatever the map; and of a shuffle it is the same.
use mathlib.Core.Path.{◌≡◌, refl, sym, ap, subst}
use mathlib.Core.Logic.{◌↔◌}
use Prim.Native.Nat.{ℕ, ◌+◌, ◌*◌, ◌≤◌, ◌<◌, ◌∣◌}
use native.Mathlib.Nat.{mod-lt, dvd_refl, dvd-mul_left_of_dvd, pos_of_dvd_of_pos}
use native.Mathlib.Decide.{ℕ_discrete}
use native.Mathlib.Omega.{arith}
use Rattle.numbers.specs.Divisors.{IsGcd}
use Rattle.numbers.specs.Absorption.{Absorbed}
use Rattle.numbers.specs.Congruences.{Cong}
use Rattle.numbers.proofs.Divisors.{dvd_make, quotient, gcd_of, gcd_one, gcd_parts}
use Rattle.numbers.proofs.Congruences.{cong_eq, cong_sym, cong_add, cong_mod, ◌⨾◌}
use Rattle.triples.specs.declared.Triple.{Triple}
use Rattle.triples.specs.Shuffles.{f, Shuffle, odd_form}
use Rattle.acceptance.proofs.Rule.{OddUnit, odd_unit}
use Rattle.spreading.specs.Spreads.{line, circular, Spreads, SpreadBy, Spread}
use Rattle.spreading.proofs.Packing.{circular_line}
use Rattle.spreading.proofs.Rises.{Rises, line_circular}

-- ---- never above

pub never_above_line : {φ : ℕ → ℕ} {n r s : ℕ} → Spread φ n r → SpreadBy line φ n s → r ≤ s
never_above_line {φ} {n} {r} c l = l.largest r c.high (circular_line φ n r c.spreads)

-- ---- the same of a shuffle

-- in the odd form every prime of K divides f2, so that K and 2·f2 have a common divisor from 3 on, but for K = 2
large : (k b m : ℕ) → 3 ≤ k → Absorbed k b → IsGcd k (2 * b) m → 3 ≤ m
large k b m big ab is = pick (ℕ_discrete m 1) (ℕ_discrete m 2)
  where
    pick : Dec (m ≡ 1) → Dec (m ≡ 2) → 3 ≤ m
    pick (yes e) y = absurd (omega (arith, ab k (dvd_refl k) (λ d p q. gcd_one is e d p (dvd-mul_left_of_dvd d q 2))))
    pick (no n) (yes e) =
        let (h, eh) = quotient 2 (subst (λ (x : ℕ). x ∣ k) e is.left) in
        absurd
        (omega (
          arith,
          ab h (dvd_make h 2 (omega arith))
              (gcd_parts k (2 * b) 2 h b (omega arith) (subst (λ (x : ℕ). IsGcd k (2 * b) x) e is) (omega arith) (omega arith)),
        ))
    pick (no n) (no l) = omega (arith, pos_of_dvd_of_pos is.left (omega arith))

-- K/m further on it rises alike, where m divides 2·f2
rises : {t o : Triple} → Shuffle t → OddUnit t o → (m q h : ℕ) → t.k ≡ m * q → 2 * o.f2 ≡ m * h → Rises (f t) m q
rises {t} {o} s u m q h ek eb =
    record {
      below = λ x. subst (λ (n : ℕ). f t x < n) ek (mod-lt (t.f1 * x + t.f2 * (x * x)) (omega (arith, s.range.low)));
      rise = o.f1 + o.f2 * q;
      further = λ x. subst (λ (n : ℕ). Cong n (f t (x + q)) (f t x + (o.f1 + o.f2 * q) * q)) ek (further x);
    }
  where
    value : (x : ℕ) → Cong t.k (f t x) (o.f1 * x + o.f2 * (x * x))
    value x =
        cong_eq (sym (u.same x))
        ⨾ subst (λ (n : ℕ). Cong n (f o x) (o.f1 * x + o.f2 * (x * x))) u.length (cong_sym (cong_mod o.k (o.f1 * x + o.f2 * (x * x))))

    step : (k a b x : ℕ) → k ≡ m * q → 2 * b ≡ m * h → Cong k (a * (x + q) + b * ((x + q) * (x + q))) (a * x + b * (x * x) + (a + b * q) * q)
    step k a b x ek eb = record { l = 0; r = h * x; eq = omega (arith, ap (λ (n : ℕ). n * (x * q)) eb, ap (λ (n : ℕ). h * x * n) ek) }

    further : (x : ℕ) → Cong t.k (f t (x + q)) (f t x + (o.f1 + o.f2 * q) * q)
    further x =
        value (x + q) ⨾ step t.k o.f1 o.f2 x ek eb ⨾ cong_add (cong_sym (value x)) (cong_eq {x = (o.f1 + o.f2 * q) * q} refl)

-- what a shuffle spreads along the line it spreads round the circle
shuffle_circular : {t : Triple} → Shuffle t → (s : ℕ) → s ≤ t.k → Spreads line (f t) t.k s → Spreads (circular t.k) (f t) t.k s
shuffle_circular {t} sh s le spreads =
    let u : OddUnit t (odd_form t) = odd_unit sh refl in
    let (m, is) = gcd_of t.k (2 * (odd_form t).f2) (omega (arith, sh.range.low)) in
    let (q, ek) = quotient m is.left in
    let (h, eb) = quotient m is.right in
    subst (λ (n : ℕ). Spreads (circular n) (f t) n s) (sym ek)
    (line_circular (rises sh u m q h ek eb) (λ x y lx ly e. sh.permutes x y (omega arith) (omega arith) e)
    (λ big. large t.k (odd_form t).f2 m (omega arith) (subst (λ (n : ℕ). Absorbed n (odd_form t).f2) u.length u.absorbed) is) s (omega arith)
    (subst (λ (n : ℕ). Spreads line (f t) n s) ek spreads))

pub same_as_line : {t : Triple} {s : ℕ} → Shuffle t → Spread (f t) t.k s ↔ SpreadBy line (f t) t.k s
same_as_line {t} {s} sh = (
  (λ c. record {
    low = c.low;
    high = c.high;
    spreads = circular_line (f t) t.k s c.spreads;
    largest = λ r le l. c.largest r le (shuffle_circular sh r le l);
  }),
  (λ l. record {
    low = l.low;
    high = l.high;
    spreads = shuffle_circular sh s l.high l.spreads;
    largest = λ r le c. l.largest r le (circular_line (f t) t.k r c);
  }),
)
