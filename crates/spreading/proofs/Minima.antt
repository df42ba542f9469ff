-- The least of many numbers, one after the other.
use mathlib.Core.Path.{◌≡◌, sym, ap, ap₂, subst, ◌∙◌}
use mathlib.Core.Logic.{◌⊎◌, inl, inr}
use Prim.Native.Nat.{ℕ, ◌+◌, ◌-◌, ◌≤◌, ◌<◌, min, max}
use native.Mathlib.Decide.{dec_lt, ℕ_discrete}
use native.Mathlib.Omega.{arith}
use Rattle.spreading.specs.Spreads.{line, circular}
use Rattle.spreading.specs.Minima.{Least}

-- one value more
pub least_more : {value : ℕ → ℕ} {n start r here r' : ℕ} → Least value n start r → here ≡ value n → r' ≡ min r here → Least value (n + 1) start r'
least_more {value} {n} {start} {r} {here} {r'} l e e' =
    record { first = omega (arith, l.first); below = λ x h. below x h (ℕ_discrete x n); met = met (dec_lt r here) l.met }
  where
    below : (x : ℕ) → x < n + 1 → Dec (x ≡ n) → r' ≤ value x
    below x h (yes z) = subst (λ (m : ℕ). r' ≤ value m) (sym z) (omega arith)
    below x h (no z) = omega (arith, l.below x (omega arith))

    met : Dec (r < here) → (r ≡ start) ⊎ ((x : ℕ) × (x < n) × (r ≡ value x)) → (r' ≡ start) ⊎ ((x : ℕ) × (x < n + 1) × (r' ≡ value x))
    met (yes h) (inl z) = inl (omega arith)
    met (yes h) (inr (x, lx, z)) = inr (x, omega arith, omega arith)
    met (no h) _ = inr (n, omega arith, omega arith)

-- the values of another map, from a lesser start: those of the first map are among them, and they are among its values
pub least_from : {u v : ℕ → ℕ} {m n start start' r r' : ℕ} → Least u m start r → ((x : ℕ) → x < n → (y : ℕ) × (y < m) × (v x ≡ u y))
    → ((y : ℕ) → y < m → (x : ℕ) × (x < n) × (u y ≡ v x)) → start' ≤ start → r' ≡ min start' r → Least v n start' r'
least_from {u} {v} {m} {n} {start} {start'} {r} {r'} l there back le e =
    record { first = omega arith; below = below; met = met (dec_lt r start') l.met }
  where
    below : (x : ℕ) → x < n → r' ≤ v x
    below x h = let (y, ly, z) = there x h in omega (arith, l.below y ly, z)

    met : Dec (r < start') → (r ≡ start) ⊎ ((y : ℕ) × (y < m) × (r ≡ u y)) → (r' ≡ start') ⊎ ((x : ℕ) × (x < n) × (r' ≡ v x))
    met (no h) _ = inl (omega arith)
    met (yes h) (inl z) = absurd (omega arith)
    met (yes h) (inr (y, ly, z)) = let (x, lx, w) = back y ly in inr (x, lx, omega arith)

-- ---- the closest by the least and the greatest distance along the line

-- one distance more
ends : (n least most way : ℕ) → min (min least way) (n - max most way) ≡ min (min least (n - most)) (min way (n - way))
ends n least most way = ap (λ (a : ℕ). min (min least way) a) rest ∙ four least way (n - most) (n - way)
  where
    rest : n - max most way ≡ min (n - most) (n - way)
    rest = omega arith

    four : (a b c d : ℕ) → min (min a b) (min c d) ≡ min (min a c) (min b d)
    four a b c d = omega arith

-- the two tell the least of n and the values below i
pub record Kept (value : ℕ → ℕ) (i n least most : ℕ) : Type 0 where
  pub closest : Least value i n (min least (n - most))
  pub fits : most ≤ n

pub kept_more : {value : ℕ → ℕ} {i n least most way least' most' : ℕ} (a b : ℕ) → Kept value i n least most → a < n → b < n → value i ≡ circular n a b → way ≡ line a b
    → least' ≡ min least way → most' ≡ max most way → Kept value (i + 1) n least' most'
kept_more {n = n} {least = least} {most = most} {way = way} a b g la lb here e el em =
    record {
      closest = least_more g.closest (ap (λ (w : ℕ). min w (n - w)) e ∙ sym here) (ap₂ (λ (p q : ℕ). min p (n - q)) el em ∙ ends n least most way);
      fits = omega (arith, g.fits);
    }
