-- The text of a number: digits that stand for it, and that begin with 0 for 0 alone.
use mathlib.Core.Path.{◌≡◌, refl, sym, ap, subst, ◌∙◌}
use mathlib.Core.Logic.{◌≢◌}
use mathlib.Core.List.{List, ◌++◌}
use Prim.Native.Nat.{ℕ, zero, suc, ◌+◌, ◌/◌, ◌%◌, ◌^◌, ◌≤◌, ◌<◌}
use native.Mathlib.Nat.{pow-zero, pow-suc}
use native.Mathlib.Omega.{arith}
use lib.ListN.{length, get_or, length-append, get_or-append}
use borrow.Author.Tests.{lt-ltb, le-ltb}
use native.Mathlib.Decide.{dec_lt}
use Rattle.cards.specs.Texts.{Digits, spelt, Number, last_digit, decimals, decimal}
use Rattle.cards.proofs.Numerals.{digits_then, value_then}

-- below ten, one digit
decimals_one : (more n : ℕ) → n < 10 → decimals more n ≡ last_digit n
unfolding decimals
decimals_one zero n h = refl
decimals_one (suc more) n h = rw (lt-ltb n 10 h)

-- from ten on, the digits of the tenth and then the last
decimals_more : (more n : ℕ) → 10 ≤ n → decimals (suc more) n ≡ decimals more (n / 10) ++ last_digit n
unfolding decimals
decimals_more more n h = rw (le-ltb n 10 h)

-- allowing one digit more changes nothing
decimals_longer : (more n : ℕ) → n < 10 ^ suc more → decimals (suc more) n ≡ decimals more n
decimals_longer zero n h =
    let l : n < 10 = omega (arith, pow-suc 10 0, pow-zero 10) in decimals_one 1 n l ∙ sym (decimals_one 0 n l)
decimals_longer (suc more) n h = pick (dec_lt n 10) (λ l. decimals_longer more (n / 10) l)
  where
    pick : Dec (n < 10) → (n / 10 < 10 ^ suc more → decimals (suc more) (n / 10) ≡ decimals more (n / 10))
        → decimals (suc (suc more)) n ≡ decimals (suc more) n
    pick (yes l) w = decimals_one (suc (suc more)) n l ∙ sym (decimals_one (suc more) n l)
    pick (no l) w =
        decimals_more (suc more) n (omega arith)
        ∙ ap (λ (text : List ℕ). text ++ last_digit n) (w (omega (arith, pow-suc 10 (suc more))))
        ∙ sym (decimals_more more n (omega arith))

decimals_zero : (n : ℕ) → decimals 0 n ≡ last_digit n
unfolding decimals
decimals_zero n = refl

-- one to `more` + 1 digits
decimals_length : (more n : ℕ) → (1 ≤ length (decimals more n)) × (length (decimals more n) ≤ more + 1)
decimals_length zero n =
    let e = ap length (decimals_zero n) in omega arith
decimals_length (suc more) n = pick (dec_lt n 10) (decimals_length more (n / 10))
  where
    pick : Dec (n < 10) → (1 ≤ length (decimals more (n / 10))) × (length (decimals more (n / 10)) ≤ more + 1)
        → (1 ≤ length (decimals (suc more) n)) × (length (decimals (suc more) n) ≤ suc more + 1)
    pick (yes l) w = let e = ap length (decimals_one (suc more) n l) in omega arith
    pick (no l) w = let e = ap length (decimals_more more n (omega arith)) ∙ length-append (decimals more (n / 10)) (last_digit n) in omega arith

-- ---- the text of a number of 32 bits

pub decimal_one : (n : ℕ) → n < 10 → decimal n ≡ last_digit n
decimal_one n = decimals_one 9 n

pub decimal_more : (n : ℕ) → n < 4294967296 → 10 ≤ n → decimal n ≡ decimal (n / 10) ++ last_digit n
decimal_more n h l =
    decimals_more 8 n l ∙ ap (λ (text : List ℕ). text ++ last_digit n) (sym (decimals_longer 8 (n / 10) (omega (arith))))

pub decimal_length : (n : ℕ) → (1 ≤ length (decimal n)) × (length (decimal n) ≤ 10)
decimal_length n = decimals_length 9 n

pub decimal_more_length : (n : ℕ) → n < 4294967296 → 10 ≤ n → length (decimal n) ≡ length (decimal (n / 10)) + 1
decimal_more_length n h l = ap length (decimal_more n h l) ∙ length-append (decimal (n / 10)) (last_digit n)

-- ---- what it says

-- what the text of n is to be
record Spells (text : List ℕ) (n : ℕ) : Type 0 where
  digits : Digits text
  some : 1 ≤ length text
  stands_for : spelt 0 text ≡ n
  leading : 1 ≤ n → get_or text 0 0 ≢ 48

spells_one : (n : ℕ) → n < 10 → Spells (last_digit n) n
spells_one n h =
    record {
      digits = (record { low = omega arith; high = omega arith }, tt);
      some = omega arith;
      stands_for = omega arith;
      leading = λ some e. omega arith;
    }

spells_more : (n : ℕ) (text : List ℕ) → 10 ≤ n → Spells text (n / 10) → Spells (text ++ last_digit n) n
spells_more n text h s =
    record {
      digits = digits_then text s.digits (record { low = omega arith; high = omega arith });
      some = omega (arith, length-append text (last_digit n), s.some);
      stands_for = value_then 0 text (48 + n % 10) ∙ omega (arith, s.stands_for);
      leading = λ _ e. s.leading (omega arith) (sym (get_or-append text (last_digit n) 0 0 s.some) ∙ e);
    }

spells : (more n : ℕ) → n < 10 ^ suc more → Spells (decimals more n) n
spells zero n h =
    let l : n < 10 = omega (arith, pow-suc 10 0, pow-zero 10) in subst (λ (text : List ℕ). Spells text n) (sym (decimals_one 0 n l)) (spells_one n l)
spells (suc more) n h = pick (dec_lt n 10) (λ l. spells more (n / 10) l)
  where
    pick : Dec (n < 10) → (n / 10 < 10 ^ suc more → Spells (decimals more (n / 10)) (n / 10)) → Spells (decimals (suc more) n) n
    pick (yes l) w = subst (λ (text : List ℕ). Spells text n) (sym (decimals_one (suc more) n l)) (spells_one n l)
    pick (no l) w =
        subst (λ (text : List ℕ). Spells text n) (sym (decimals_more more n (omega arith)))
        (spells_more n (decimals more (n / 10)) (omega arith) (w (omega (arith, pow-suc 10 (suc more)))))

pub decimal_leading : (n : ℕ) → n < 4294967296 → 1 ≤ n → get_or (decimal n) 0 0 ≢ 48
decimal_leading n h = (spells 9 n (omega arith)).leading

-- a number of at most five digits reads back as itself
pub decimal_number : (n : ℕ) → n < 100000 → Number (decimal n) n
decimal_number n h =
    let s = spells 9 n (omega arith) in
    record { digits = s.digits; some = s.some; few = omega (arith, ap length short, decimals_length 4 n); stands_for = sym s.stands_for }
  where
    short : decimals 9 n ≡ decimals 4 n
    short =
        decimals_longer 8 n (omega arith) ∙ decimals_longer 7 n (omega arith) ∙ decimals_longer 6 n (omega arith) ∙ decimals_longer 5 n (omega arith)
        ∙ decimals_longer 4 n (omega arith)
