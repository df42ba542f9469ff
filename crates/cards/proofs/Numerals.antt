-- Digits, and what they stand for.
use mathlib.Core.Path.{◌≡◌, refl, sym, ap, subst, ◌∙◌}
use mathlib.Core.Bool.{Bool, true, false, cond}
use Rattle.std.specs.List.{prefix_len}
use Rattle.std.specs.Char.{is_ascii_digit}
use mathlib.Core.List.{List, [], ◌∷◌, ◌++◌}
use Prim.Native.Nat.{ℕ, zero, suc, ◌+◌, ◌-◌, ◌*◌, ◌^◌, ◌≤◌, ◌<◌}
use native.Mathlib.Nat.{pow-zero, pow-succ', pow-le-pow_right, mul-le-mul_right}
use native.Mathlib.Omega.{arith}
use Rattle.std.proofs.lemmas.Bool.Decides.{nat_tests}
use lib.ListN.{length, get_or, take}
use lib.Seq.{length-take-le}
use Rattle.cards.specs.Texts.{Digit, Digits, spelt, most_digits}
use Rattle.cards.specs.Fronts.{Run}

pub no_digit_low : {byte : ℕ} → byte < 48 → ¬ Digit byte
no_digit_low h d = omega (arith, d.low)

pub digits_then : (text : List ℕ) {byte : ℕ} → Digits text → Digit byte → Digits (text ++ (byte ∷ []))
digits_then [] _ d = (d, tt)
digits_then (b ∷ text) (h, more) d = (h, digits_then text more d)

pub digits_at : (text : List ℕ) (i : ℕ) → Digits text → i < length text → Digit (get_or text i 0)
digits_at [] i _ h = absurd (omega arith)
digits_at (b ∷ text) zero (d, _) h = d
digits_at (b ∷ text) (suc i) (_, more) h = digits_at text i more (omega arith)

digits_take : (text : List ℕ) (i : ℕ) → Digits text → Digits (take i text)
digits_take text zero d = tt
digits_take [] (suc i) d = tt
digits_take (b ∷ text) (suc i) (d, more) = (d, digits_take text i more)

-- ---- the run of digits at the front

-- a digit, and any other byte, as the test says
digit_yes : (byte : ℕ) → Digit byte → is_ascii_digit byte ≡ true
digit_yes byte d = let low = d.low in let high = d.high in grind (arith, nat_tests)

digit_said : (byte : ℕ) → is_ascii_digit byte ≡ true → Digit byte
digit_said byte e = record { low = grind (arith, nat_tests); high = grind (arith, nat_tests) }

digit_no : (byte : ℕ) → is_ascii_digit byte ≡ false → ¬ Digit byte
digit_no byte e d = let z : true ≡ false = sym (digit_yes byte d) ∙ e in cc

-- it ends at the first byte that is no digit
pub run_found : (text : List ℕ) → Run text (prefix_len is_ascii_digit text)
run_found [] = record { within = omega arith; digits = tt; stops = tt }
run_found (byte ∷ text) = pick (is_ascii_digit byte) refl (run_found text)
  where
    end : ℕ
    end = prefix_len is_ascii_digit text

    pick : (b : Bool) → is_ascii_digit byte ≡ b → Run text end → Run (byte ∷ text) (cond b (1 + end) 0)
    pick true e r =
        subst (Run (byte ∷ text)) {x = suc end} (omega arith)
        (record { within = omega (arith, r.within); digits = (digit_said byte e, r.digits); stops = r.stops })
    pick false e r = record { within = omega arith; digits = tt; stops = digit_no byte e }

pub run_length : {text : List ℕ} {end : ℕ} → Run text end → length (take end text) ≡ end
run_length {text} {end} r = length-take-le end text r.within

-- ---- the value

pub value_then : (n : ℕ) (text : List ℕ) (byte : ℕ) → spelt n (text ++ (byte ∷ [])) ≡ 10 * spelt n text + (byte - 48)
value_then n [] byte = refl
value_then n (b ∷ text) byte = value_then (10 * n + (b - 48)) text byte

value_below : (n : ℕ) (text : List ℕ) → Digits text → spelt n text < (n + 1) * 10 ^ length text
value_below n [] _ = omega (arith, pow-zero 10)
value_below n (b ∷ text) (d, more) =
    let w = value_below (10 * n + (b - 48)) text more in
    let m = mul-le-mul_right {m = 10 * n + (b - 48) + 1} {n = 10 * (n + 1)} (10 ^ length text) (omega (arith, d.low, d.high)) in
    omega (arith, ap (λ (p : ℕ). (n + 1) * p) (pow-succ' 10 (length text)))

-- n is what the first i digits stand for
pub record ValueTo (text : List ℕ) (i n : ℕ) : Type 0 where
  pub within : i ≤ length text
  pub stands_for : n ≡ spelt 0 (take i text)

module _ {text : List ℕ} {i n : ℕ} (v : ValueTo text i n) where
  -- one digit fewer than the most
  pub value_small : Digits text → length text ≤ most_digits → i < length text → n < 10000
  value_small d l h =
      let w = value_below 0 (take i text) (digits_take text i d) in
      let p = pow-le-pow_right {n = 10} (omega arith) {i = length (take i text)} {j = 4} (omega (arith, length-take-le i text v.within)) in
      omega (arith, v.stands_for)
