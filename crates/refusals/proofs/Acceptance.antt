-- What acceptance means: for a formula of any kind, and for a triple.
use mathlib.Core.Path.{◌≡◌, refl, subst}
use mathlib.Core.Logic.{◌↔◌, ◌⊎◌, inl, inr, by_cases}
use mathlib.Core.List.{List, [], ◌∷◌, ◌++◌}
use Prim.Native.Nat.{ℕ, ◌≤◌, ◌<◌}
use native.Mathlib.Decide.{dec_lt}
use native.Mathlib.Omega.{arith}
use Rattle.permuting.specs.Formulas.{Formula, Permutes}
use Rattle.permuting.proofs.Formulas.{permutes_stable}
use Rattle.triples.specs.declared.Triple.{Triple}
use Rattle.triples.specs.Shuffles.{quadratic, InRange, Shuffle}
use Rattle.refusals.specs.Refusals.{Test, Reaches, First, no_shuffle, nothing_to_explain, range_tests, shuffle_tests, Acceptance}
use Rattle.refusals.proofs.Tests.{None, none, none_before, none_first, first_one, passes, splits}

-- ---- a formula of any kind

-- every coefficient is below k
abbrev pub AllBelow : ℕ → List ℕ → Type 0
AllBelow k [] = Unit {0}
AllBelow k (coefficient ∷ more) = (coefficient < k) × AllBelow k more

pub record Ranged (φ : Formula) : Type 0 where
  pub low : 2 ≤ φ.length
  pub high : φ.length ≤ 8192
  pub below : AllBelow φ.length φ.coefficients

pub record Accepted (φ : Formula) : Type 0 where
  pub range : Ranged φ
  pub permutes : Permutes φ

all_below : (k : ℕ) (coefficients : List ℕ) → ¬ Reaches k coefficients → AllBelow k coefficients
all_below k [] h = tt
all_below k (c ∷ more) h = (by_cases (dec_lt c k) (λ l. l) (λ l. absurd (h (inl (omega arith)))), all_below k more (λ r. h (inr r)))

none_reaches : (k : ℕ) (coefficients : List ℕ) → AllBelow k coefficients → ¬ Reaches k coefficients
none_reaches k [] b h = h
none_reaches k (c ∷ more) b (inl h) = omega (arith, b.0)
none_reaches k (c ∷ more) b (inr h) = none_reaches k more b.1 h

module _ (φ : Formula) where
  -- one number is given
  pub acceptance_one : {n m : ℕ} → Acceptance φ n → Acceptance φ m → n ≡ m
  acceptance_one = first_one (shuffle_tests φ)

  pub ranged_if : None (range_tests φ) → Ranged φ
  ranged_if h = record { low = low (dec_lt φ.length 2); high = high (dec_lt 8192 φ.length); below = all_below φ.length φ.coefficients h.1.0 }
    where
      low : Dec (φ.length < 2) → 2 ≤ φ.length
      low (yes l) = absurd (h.0 (inl l))
      low (no l) = omega arith

      high : Dec (8192 < φ.length) → φ.length ≤ 8192
      high (yes l) = absurd (h.0 (inr l))
      high (no l) = omega arith

  pub if_ranged : Ranged φ → None (range_tests φ)
  if_ranged r = (short, (none_reaches φ.length φ.coefficients r.below, tt))
    where
      short : ¬ ((φ.length < 2) ⊎ (8192 < φ.length))
      short (inl h) = omega (arith, r.low)
      short (inr h) = omega (arith, r.high)

  pub accepted_if : None (shuffle_tests φ) → Accepted φ
  accepted_if h = record { range = ranged_if (h.0, (h.1.0, tt)); permutes = permutes_stable φ h.1.1.0 }

  pub if_accepted : Accepted φ → None (shuffle_tests φ)
  if_accepted a = let r = if_ranged a.range in (r.0, (r.1.0, ((λ not. not a.permutes), tt)))

  -- number 0 is given exactly to a formula in range that permutes
  pub accepted_exactly : {n : ℕ} → Acceptance φ n → (n ≡ 0) ↔ Accepted φ
  accepted_exactly first =
      ((λ z. accepted_if (none (shuffle_tests φ) tt first z)), λ a. first_one (shuffle_tests φ) first (none_first (shuffle_tests φ) (if_accepted a) refl))

-- ---- one that is refused by 3

abbrev pub explain_tests : Formula → List Test
explain_tests φ = range_tests φ ++ (nothing_to_explain φ ∷ [])

pub record Refused (φ : Formula) : Type 0 where
  pub range : Ranged φ
  pub fails : ¬ Permutes φ

module _ (φ : Formula) where
  pub refused_by_three : Acceptance φ 3 → Refused φ
  refused_by_three (inl (e, h)) = absurd (omega arith)
  refused_by_three (inr (a, inl (e, h))) = absurd (omega arith)
  refused_by_three (inr (a, inr (b, inl (e, h)))) = record { range = ranged_if φ (a, (b, tt)); fails = h }
  refused_by_three (inr (a, inr (b, inr (c, e)))) = absurd (omega arith)

  pub explained_if : {n : ℕ} → First (explain_tests φ) n → n ≡ 0 → Refused φ
  explained_if first z =
      record {
        range = ranged_if φ (none_before (range_tests φ) (nothing_to_explain φ ∷ []) tt first z);
        fails = (none (nothing_to_explain φ ∷ []) tt (splits (range_tests φ) (nothing_to_explain φ ∷ []) tt first z) z).0;
      }

  -- 3 is given exactly where there is something to explain
  pub refused_exactly : {n m : ℕ} → Acceptance φ n → First (explain_tests φ) m → (n ≡ 3) ↔ (m ≡ 0)
  refused_exactly {n} {m} first second = (to, from)
    where
      to : n ≡ 3 → m ≡ 0
      to e =
          let r = refused_by_three (subst (λ (i : ℕ). Acceptance φ i) e first) in
          first_one (explain_tests φ) second (passes (range_tests φ) (nothing_to_explain φ ∷ []) 0 (if_ranged φ r.range) (inr (r.fails, refl)))

      from : m ≡ 0 → n ≡ 3
      from z =
          let r = explained_if second z in
          first_one (shuffle_tests φ) first (passes (range_tests φ) (no_shuffle φ ∷ []) 3 (if_ranged φ r.range) (inl (refl, r.fails)))

-- ---- a triple

module _ {t : Triple} where
  in_range : Ranged (quadratic t) → InRange t
  in_range r = record { low = r.low; high = r.high; first = r.below.0; second = r.below.1.0 }

  pub range_of : InRange t → Ranged (quadratic t)
  range_of r = record { low = r.low; high = r.high; below = (r.first, (r.second, tt)) }

  shuffle : Accepted (quadratic t) → Shuffle t
  shuffle a = record { range = in_range a.range; permutes = a.permutes }

  accepted_of : Shuffle t → Accepted (quadratic t)
  accepted_of s = record { range = range_of s.range; permutes = s.permutes }

  -- 0 is given only to a triple in range, whatever tests follow
  pub ranged : (own : List Test) {n : ℕ} → First (range_tests (quadratic t) ++ own) n → n ≡ 0 → InRange t
  ranged own first z = in_range (ranged_if (quadratic t) (none_before (range_tests (quadratic t)) own tt first z))

  -- and only to a shuffle
  pub accepted_then : (own : List Test) {n : ℕ} → First (shuffle_tests (quadratic t) ++ own) n → n ≡ 0 → Shuffle t
  accepted_then own first z = shuffle (accepted_if (quadratic t) (none_before (shuffle_tests (quadratic t)) own tt first z))

  pub accepted : {n : ℕ} → Acceptance (quadratic t) n → n ≡ 0 → Shuffle t
  accepted first z = shuffle (accepted_if (quadratic t) (none (shuffle_tests (quadratic t)) tt first z))

  pub none_ranged : InRange t → None (range_tests (quadratic t))
  none_ranged r = if_ranged (quadratic t) (range_of r)

  pub none_shuffle : Shuffle t → None (shuffle_tests (quadratic t))
  none_shuffle s = if_accepted (quadratic t) (accepted_of s)

  pub refused_range : Refused (quadratic t) → InRange t
  refused_range r = in_range r.range

  -- number 0 is given exactly to a shuffle
  pub shuffle_exactly : {n : ℕ} → Acceptance (quadratic t) n → (n ≡ 0) ↔ Shuffle t
  shuffle_exactly first = let (p, q) = accepted_exactly (quadratic t) first in ((λ z. shuffle (p z)), λ s. q (accepted_of s))
