-- The addresses in a row, each from the one before.
use mathlib.Core.Path.{◌≡◌, refl, sym, ap, subst, ◌∙◌}
use mathlib.Core.List.{List}
use Prim.Native.Nat.{ℕ, ◌+◌, ◌*◌, ◌%◌, ◌≤◌, ◌<◌}
use native.Mathlib.Nat.{zero-mod, mod-eq_of_lt}
use native.Mathlib.Omega.{arith}
use lib.ListN.{length, set, length-set}
use Rattle.numbers.specs.Congruences.{Cong}
use Rattle.numbers.specs.Lists.{Written}
use Rattle.numbers.proofs.Congruences.{cong_eq, cong_sym, cong_same, cong_add, cong_mod, ◌⨾◌}
use Rattle.numbers.proofs.Lists.{written_more}
use Rattle.triples.specs.declared.Triple.{Triple}
use Rattle.triples.specs.declared.striding.Stride.{Stride}
use Rattle.triples.specs.Shuffles.{f}
use Rattle.triples.specs.Strides.{gain, Sound, At, Follows}

pub at_start : {t : Triple} {s : Stride} (down1 down2 : ℕ) → Sound s → s.k ≡ t.k → s.address ≡ 0 → Cong t.k (down1 + t.f1) 0
    → Cong t.k (down2 + t.f2) 0 → Cong t.k (s.fall + t.f2) down1 → Cong t.k (s.twice + down2) t.f2 → At t 0 s
at_start {t} {s} down1 down2 sound size zero first second fall twice =
    record {
      sound = sound;
      size = size;
      address = zero ∙ sym (zero-mod t.k) ∙ ap (λ (n : ℕ). n % t.k) (omega arith);
      fall = record { l = fall.l + first.l; r = fall.r + first.r; eq = omega (arith, fall.eq, first.eq) };
      twice = record { l = twice.l + second.r; r = twice.r + second.l; eq = omega (arith, twice.eq, second.eq) };
    }

pub at_next : {s r : Stride} → Sound r → r.k ≡ s.k → Cong s.k (r.address + s.fall) s.address → Cong s.k (r.fall + s.twice) s.fall
    → r.twice ≡ s.twice → Follows s r
at_next {s} {r} sound size address fall twice = record { sound = sound; goes = goes }
  where
    goes : (t : Triple) (x : ℕ) → At t x s → At t (x + 1) r
    goes t x at =
        let down = subst (λ (k : ℕ). Cong k (r.address + s.fall) s.address) at.size address in
        let further = subst (λ (k : ℕ). Cong k (r.fall + s.twice) s.fall) at.size fall in
        let here : Cong t.k s.address (t.f1 * x + t.f2 * (x * x)) = cong_eq at.address ⨾ cong_sym (cong_mod t.k (t.f1 * x + t.f2 * (x * x))) in
        let risen : Cong t.k r.address (s.address + gain t x) =
        record { l = down.l + at.fall.r; r = down.r + at.fall.l; eq = omega (arith, down.eq, at.fall.eq) } in
        record {
          sound = sound;
          size = size ∙ at.size;
          address = sym (mod-eq_of_lt (omega (arith, sound.address, size, at.size))) ∙ cong_same (risen ⨾ cong_add here (cong_eq {x = gain t x} refl) ⨾ cong_eq (omega arith));
          fall = record { l = further.l + at.twice.r + at.fall.l; r = further.r + at.twice.l + at.fall.r; eq = omega (arith, further.eq, at.twice.eq, at.fall.eq) };
          twice = cong_eq twice ⨾ at.twice;
        }

-- Of each triple at whose start a stride stood: the places below x are written, the others are not, and the stride stands at x.
pub record Listing (n : ℕ) (before list : List ℕ) (start s : Stride) (x : ℕ) : Type 0 where
  pub sound : Sound s
  pub within : x ≤ n
  pub size : length list ≡ length before
  pub written : (t : Triple) → At t 0 start → Written (f t) x before list
  pub at : (t : Triple) → At t 0 start → At t x s

pub listing_step : {n : ℕ} {before list : List ℕ} {start s next : Stride} {x : ℕ} → Listing n before list start s x → x < n → x < length list → Follows s next
    → Listing n before (set list x s.address) start next (x + 1)
listing_step {list = list} {s = s} {x = x} l below room follows =
    record {
      sound = follows.sound;
      within = omega arith;
      size = length-set list x s.address ∙ l.size;
      written = λ t begun. written_more s.address (l.written t begun) room (l.at t begun).address;
      at = λ t begun. follows.goes t x (l.at t begun);
    }
