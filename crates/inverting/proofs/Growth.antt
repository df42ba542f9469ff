-- The loop that makes the series: each term comes of the power before it.
use mathlib.Core.Path.{◌≡◌, refl, sym, ap, subst, ◌∙◌}
use mathlib.Core.Bool.{Bool}
use mathlib.Core.List.{List}
use Prim.Native.Nat.{ℕ, zero, suc, ◌+◌, ◌*◌, ◌-◌, ◌%◌, ◌^◌, ◌≤◌, ◌<◌}
use native.Mathlib.Nat.{pow-zero, pow-suc, mul-le-mul}
use native.Mathlib.Omega.{arith}
use native.Mathlib.Numerals.{add-one}
use native.Mathlib.Decide.{dec_lt}
use lib.Dec.{ltb, ltb→lt}
use lib.ListN.{length, get_or, set, length-set, get_or-eq_default}
use lib.Pow.{pow-add}
use lib.Seq.{get_or-set_other}
use Rattle.numbers.specs.Congruences.{Cong}
use Rattle.numbers.proofs.Congruences.{cong_eq, cong_sym, ◌⨾◌, cong_mul, cong_times, cong_mod}
use Rattle.polynomials.specs.Reductions.{Ends, AtMost}
use Rattle.numbers.proofs.Lists.{filled_more}
use Rattle.numbers.proofs.Computation.{passes}
use Rattle.inverting.specs.Series.{catalan, term, Series}

-- x is the term at the place i, up to multiples of k, and leaves room in 32 bits
abbrev pub TermAt : ℕ → ℕ → ℕ → ℕ → ℕ → Type 0
TermAt k f2 r i x = Cong k x (term k f2 r i) × (x ≤ 2147483648)

-- the places up to j have their terms, the others hold 0, and power is what the next term multiplies
pub record Grown (k f2 r : ℕ) (s : List ℕ) (power j : ℕ) : Type 0 where
  pub long : length s ≡ 14
  pub free : get_or s 0 0 ≡ 0
  pub places : (i : ℕ) → i < j + 1 → TermAt k f2 r i (get_or s i 0)
  pub ends : Ends j s
  pub below : power < k
  pub is : Cong k power (r * ((k - 1) * (f2 * (r * r))) ^ j)

pub grown_start : (k f2 r : ℕ) (s : List ℕ) → r < k → length s ≡ 14 → AtMost 0 s → Grown k f2 r s r 0
unfolding term
grown_start k f2 r s below long empty =
    record {
      long = long;
      free = omega (arith, empty 0);
      places = λ i l. let e : 0 ≡ i = omega arith in
          subst (λ (n : ℕ). TermAt k f2 r n (get_or s n 0)) e (cong_eq (omega (arith, empty 0)), omega (arith, empty 0));
      ends = λ i l. omega (arith, empty i);
      below = below;
      is = cong_eq (omega (arith, ap (λ (t : ℕ). r * t) (pow-zero ((k - 1) * (f2 * (r * r))))));
    }

-- three products, each brought below k
pub minus : (k f2 r square product step : ℕ) → square ≡ r * r % k → product ≡ f2 * square % k → step ≡ (k - 1) * product % k
    → Cong k step ((k - 1) * (f2 * (r * r)))
minus k f2 r square product step e f g = whole (k - 1) (whole f2 (whole r (cong_eq refl) e) f) g
  where
    whole : (a : ℕ) {b c d : ℕ} → Cong k b c → d ≡ a * b % k → Cong k d (a * c)
    whole a {b} h e = cong_eq e ⨾ cong_sym (cong_mod k (a * b)) ⨾ cong_times a h

small : ℕ → Bool
small j = ltb (get_or catalan j 0) 262144

-- a power below 2 to the 13th times a Catalan number below 2 to the 18th
product_le : (power a j : ℕ) → power ≤ 8192 → j < 13 → a ≡ get_or catalan j 0 → power * a ≤ 2147483648
unfolding small catalan
product_le power a j l h e =
    let few : get_or catalan j 0 < 262144 = ltb→lt (get_or catalan j 0) 262144 (passes 13 small tt j h) in
    mul-le-mul {n₁ = power} {m₁ = a} {n₂ = 8192} {m₂ = 262144} l (omega arith)

pub grown_turn : (k f2 r step power a next j : ℕ) (s : List ℕ) → k ≤ 8192 → j < 13 → Cong k step ((k - 1) * (f2 * (r * r)))
    → a ≡ get_or catalan j 0 → (next ≡ power * step % k) × (next < k) → Grown k f2 r s power j → Grown k f2 r (set s (j + 1) (power * a)) next (j + 1)
unfolding term
grown_turn k f2 r step power a next j s few l minus ea (en, ln) g =
    record {
      long = length-set s (j + 1) (power * a) ∙ g.long;
      free = get_or-set_other s (j + 1) 0 (power * a) 0 (omega arith) ∙ g.free;
      places =
          filled_more (TermAt k f2 r) s (j + 1) (power * a) (omega (arith, g.long)) g.places (here, product_le power a j (omega (arith, g.below)) l ea);
      ends = λ i h. get_or-set_other s (j + 1) i (power * a) 0 (omega arith) ∙ g.ends i (omega arith);
      below = ln;
      is = cong_eq en ⨾ cong_sym (cong_mod k (power * step)) ⨾ cong_mul g.is minus ⨾ cong_eq grown;
    }
  where
    c : ℕ
    c = (k - 1) * (f2 * (r * r))

    grown : r * c ^ j * c ≡ r * c ^ (j + 1)
    grown = omega (arith, ap (λ (t : ℕ). r * t) (pow-suc c j), ap (λ (i : ℕ). r * c ^ i) (add-one j))

    here : Cong k (power * a) (term k f2 r (j + 1))
    here = cong_mul g.is (cong_eq ea) ⨾ cong_eq (omega (arith, ap (λ (i : ℕ). term k f2 r i) (add-one j)))

-- where the terms past j are 0, the series is whole
grown_end : (k f2 r power j : ℕ) (s : List ℕ) → ((i : ℕ) → j < i → Cong k 0 (term k f2 r i)) → Grown k f2 r s power j → Series k f2 r s
grown_end k f2 r power j s rest g = record { free = g.free; terms = λ i. (place i (dec_lt i (j + 1))).0; at_most = λ i. (place i (dec_lt i (j + 1))).1 }
  where
    place : (i : ℕ) → Dec (i < j + 1) → TermAt k f2 r i (get_or s i 0)
    place i (yes h) = g.places i h
    place i (no h) = let z : get_or s i 0 ≡ 0 = g.ends i (omega arith) in (cong_eq z ⨾ rest i (omega arith), omega arith)

-- past the thirteenth place there is no Catalan number
pub grown_full : (k f2 r power j : ℕ) (s : List ℕ) → 13 ≤ j → Grown k f2 r s power j → Series k f2 r s
unfolding term catalan
grown_full k f2 r power j s l g = grown_end k f2 r power j s (λ i h. cong_eq (sym (none i (omega arith)))) g
  where
    none : (i : ℕ) → 14 ≤ i → term k f2 r i ≡ 0
    none zero h = refl
    none (suc i) h =
        let c = (k - 1) * (f2 * (r * r)) in
        omega (arith, ap (λ (t : ℕ). r * (c ^ i * t)) (get_or-eq_default catalan 0 {n = i} (omega arith)))

-- after a power that is 0 every term is
pub grown_short : (k f2 r power j : ℕ) (s : List ℕ) → power ≡ 0 → Grown k f2 r s power j → Series k f2 r s
unfolding term
grown_short k f2 r power j s e0 g = grown_end k f2 r power j s none g
  where
    c : ℕ
    c = (k - 1) * (f2 * (r * r))

    none : (i : ℕ) → j < i → Cong k 0 (term k f2 r i)
    none zero h = absurd (omega arith)
    none (suc i) h =
        let d = c ^ (i - j) * get_or catalan i 0 in
        let e : c ^ i ≡ c ^ j * c ^ (i - j) = ap (λ (n : ℕ). c ^ n) (omega arith) ∙ pow-add c j (i - j) in
        cong_eq (omega (arith, ap (λ (t : ℕ). t * d) e0)) ⨾ cong_mul {x = power} g.is (cong_eq {x = d} refl)
        ⨾ cong_eq (omega (arith, ap (λ (t : ℕ). r * (t * get_or catalan i 0)) e))
