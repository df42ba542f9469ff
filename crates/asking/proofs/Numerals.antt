-- What digits stand for, one digit after the other, up to the largest number of 64 bits.
use mathlib.Core.Path.{◌≡◌, ap, ◌∙◌}
use mathlib.Core.List.{List}
use Prim.Native.Nat.{ℕ, ◌+◌, ◌-◌, ◌*◌, ◌^◌, ◌≤◌, ◌<◌}
use native.Mathlib.Omega.{arith}
use lib.ListN.{length, get_or, take}
use Rattle.std.specs.Prelude.{min}
use Rattle.std.specs.Char.{digit_value}
use Rattle.std.specs.Str.Parse.{digits_value}
use Rattle.std.proofs.lemmas.List.{take_more}
use Rattle.std.proofs.lemmas.Str.{digit_value_digit}
use Rattle.std.proofs.lemmas.Int.Digits.{digits_value_push}

-- a number with a digit more
pub value_more : (digits : List ℕ) (i : ℕ) {n r : ℕ} → i < length digits → 48 ≤ get_or digits i 0 → get_or digits i 0 ≤ 57
    → n ≡ min (digits_value 10 (take i digits)) (2 ^ 64 - 1) → r ≡ min (n * 10 + (get_or digits i 0 - 48)) (2 ^ 64 - 1)
    → r ≡ min (digits_value 10 (take (i + 1) digits)) (2 ^ 64 - 1)
value_more digits i {n} {r} h low high so more =
    let d = get_or digits i 0 in
    let v = digits_value 10 (take i digits) in
    let value : digits_value 10 (take (i + 1) digits) ≡ v * 10 + digit_value d =
    ap (λ (l : List ℕ). digits_value 10 l) (take_more digits i 0 h) ∙ digits_value_push 10 (take i digits) d in
    step v n r d (digit_value d) (digits_value 10 (take (i + 1) digits)) so more value (digit_value_digit d (low, high)) low
  where
    step : (v n r d e w : ℕ) → n ≡ min v (2 ^ 64 - 1) → r ≡ min (n * 10 + (d - 48)) (2 ^ 64 - 1) → w ≡ v * 10 + e → e + 48 ≡ d → 48 ≤ d → r ≡ min w (2 ^ 64 - 1)
    step v n r d e w a b c f g = omega (arith, a, b, c, f, g)
