-- The spread is one number, and depends on the addresses alone; the spread of a triple, from a table of its addresses.
use mathlib.Core.Path.{◌≡◌, sym, ap₂, subst, ◌∙◌}
use mathlib.Core.List.{List}
use Prim.Native.Nat.{ℕ, ◌+◌, ◌%◌, ◌≤◌, ◌<◌}
use native.Mathlib.Nat.{mod-lt, div-add-mod, lt_of_lt_of_le}
use native.Mathlib.Omega.{arith}
use Rattle.numbers.specs.Lists.{Written}
use Rattle.triples.specs.declared.Triple.{Triple}
use Rattle.triples.proofs.Values.{wrap}
use Rattle.triples.specs.Shuffles.{f, InRange}
use Rattle.spreading.specs.Spreads.{SpreadBy, Spread}
use Rattle.spreading.specs.Minima.{entry, fours, Round, Roomy}

pub spread_one : {distance : ℕ → ℕ → ℕ} {φ : ℕ → ℕ} {n r s : ℕ} → SpreadBy distance φ n r → SpreadBy distance φ n s → r ≡ s
spread_one {r = r} {s = s} a b = omega (arith, a.largest s b.high b.spreads, b.largest r a.high a.spreads)

pub spread_same : {distance : ℕ → ℕ → ℕ} {φ ψ : ℕ → ℕ} {n s : ℕ} → ((x : ℕ) → x < n → φ x ≡ ψ x) → SpreadBy distance φ n s → SpreadBy distance ψ n s
spread_same {distance} {φ} {ψ} {n} {s} e a =
    record {
      low = a.low;
      high = a.high;
      spreads = λ x y lx ly ne h. subst (λ (m : ℕ). s ≤ m) (same x y lx ly) (a.spreads x y lx ly ne h);
      largest = λ r l spreads. a.largest r l (λ x y lx ly ne h. subst (λ (m : ℕ). r ≤ m) (sym (same x y lx ly)) (spreads x y lx ly ne h));
    }
  where
    same : (x y : ℕ) → x < n → y < n → distance (φ x) (φ y) ≡ distance (ψ x) (ψ y)
    same x y lx ly = ap₂ (λ (p q : ℕ). distance p q) (e x lx) (e y ly)

-- ---- the spread of a triple, from a table that lists its addresses

module _ (t : Triple) {before table : List ℕ} (l : Written (f t) (fours t.k) before table) (range : InRange t) where
  all : (t.k ≤ fours t.k) × (fours t.k ≤ 8192)
  all =
      let low : (t.k + 3) % 4 < 4 = mod-lt (t.k + 3) (omega arith) in
      (omega (arith, div-add-mod (t.k + 3) 4), omega (arith, div-add-mod (t.k + 3) 4, range.high))

  pub table_round : Roomy before t.k → Round table t.k (fours t.k)
  table_round roomy =
      record {
        few = all.1;
        some = range.low;
        all = all.0;
        below = λ i h. subst (λ (a : ℕ). a < t.k) (sym (l.entries i (omega (arith, all.0)))) (mod-lt _ (omega (arith, range.low)));
        again = λ i h. l.entries i h ∙ sym (wrap t i) ∙ sym (l.entries (i % t.k) (lt_of_lt_of_le (mod-lt i (omega (arith, range.low))) all.0));
        behind = record { room = roomy.room; within = omega (arith, l.size, roomy.within); enough = roomy.enough };
      }

  pub table_spread : {s : ℕ} → Spread (entry table) t.k s → Spread (f t) t.k s
  table_spread = spread_same (λ x h. l.entries x (omega (arith, all.0)))
