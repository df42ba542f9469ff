-- A test of acceptance that is quick to compute: Euclid's algorithm for f1, and the 13th power of f2, which K, being at most 2 to the 13th,
-- divides exactly if f2 has all its primes. A triple that passes is a shuffle.
use mathlib.Core.Path.{◌≡◌, refl, subst}
use mathlib.Core.Bool.{Bool, ◌&&◌}
use Prim.Native.Nat.{ℕ, zero, suc, ◌%◌, ◌^◌}
use native.Mathlib.Nat.{dvd_of_mod-eq-zero}
use native.Mathlib.Omega.{arith}
use lib.Dec.{T, eqb, leb, ltb, eqb→eq, leb→le, ltb→lt}
use Rattle.numbers.specs.Divisors.{IsGcd}
use Rattle.numbers.proofs.Divisors.{gcd_end, gcd_step, gcd_one}
use Rattle.numbers.proofs.Absorption.{power_absorbed}
use Rattle.numbers.proofs.Computation.{both_parts}
use Rattle.triples.specs.declared.Triple.{Triple}
use Rattle.triples.specs.Shuffles.{InRange, Shuffle, odd_form}
use Rattle.acceptance.proofs.Rule.{Rule, rule_enough}

-- Euclid's algorithm in at most n steps, 0 where they do not suffice
abbrev euclid : ℕ → ℕ → ℕ → ℕ
euclid zero a b = 0
euclid (suc n) a zero = a
euclid (suc n) a (suc b) = euclid n (suc b) (a % suc b)

euclid_gcd : (n a b g : ℕ) → euclid n a b ≡ suc g → IsGcd a b (suc g)
euclid_gcd zero a b g e = absurd (omega arith)
euclid_gcd (suc n) a zero g e = subst (λ (m : ℕ). IsGcd a 0 m) e (gcd_end a 0 refl)
euclid_gcd (suc n) a (suc b) g e = gcd_step a (suc b) (suc g) (euclid_gcd n (suc b) (a % suc b) g e)

-- the rule, of an odd form
abbrev ruled : Triple → Bool
ruled o = eqb (euclid 20 o.f1 o.k) 1 && eqb (o.f2 ^ 13 % o.k) 0

rule : (o : Triple) → T (ruled o) → Rule o
rule o e =
    let (shared, power) = both_parts (eqb (euclid 20 o.f1 o.k) 1) (eqb (o.f2 ^ 13 % o.k) 0) e in
    record {
      coprime = gcd_one (euclid_gcd 20 o.f1 o.k 0 (eqb→eq (euclid 20 o.f1 o.k) 1 shared)) refl;
      absorbed = power_absorbed 13 o.k o.f2 (dvd_of_mod-eq-zero o.k (eqb→eq (o.f2 ^ 13 % o.k) 0 power));
    }

abbrev ranged : Triple → Bool
ranged t = (leb 2 t.k && leb t.k 8192) && (ltb t.f1 t.k && ltb t.f2 t.k)

in_range : (t : Triple) → T (ranged t) → InRange t
in_range t e =
    let (length, below) = both_parts (leb 2 t.k && leb t.k 8192) (ltb t.f1 t.k && ltb t.f2 t.k) e in
    let (low, high) = both_parts (leb 2 t.k) (leb t.k 8192) length in
    let (first, second) = both_parts (ltb t.f1 t.k) (ltb t.f2 t.k) below in
    record { low = leb→le 2 t.k low; high = leb→le t.k 8192 high; first = ltb→lt t.f1 t.k first; second = ltb→lt t.f2 t.k second }

abbrev pub quick : Triple → Bool
quick t = ranged t && ruled (odd_form t)

pub quick_shuffle : (t : Triple) → T (quick t) → Shuffle t
quick_shuffle t e =
    let (range, right) = both_parts (ranged t) (ruled (odd_form t)) e in
    record { range = in_range t range; permutes = rule_enough (in_range t range) (rule (odd_form t) right) }
