-- Pieces of the input, one after the other.
use mathlib.Core.Path.{◌≡◌, refl, sym, ap₂, subst, ◌∙◌}
use mathlib.Core.Logic.{◌≢◌, inl, inr}
use mathlib.Core.List.{List, [], ◌∷◌, ◌++◌, append_assoc, append-nil}
use Prim.Native.Nat.{ℕ, ◌+◌, ◌≤◌, ◌<◌}
use native.Mathlib.Omega.{arith}
use lib.ListN.{length, get_or, take}
use Rattle.std.proofs.lemmas.List.{take_more}
use Rattle.cards.specs.declared.lines.Line.{Line}
use Rattle.cards.specs.Texts.{newline, Wrote}
use Rattle.cards.specs.Cards.{CardOf}
use Rattle.cards.specs.Output.{Output, Holding, WroteFor, Goes, Prints}
use Rattle.cards.proofs.Buffers.{appended_none, appended_then, wrote_as}
use Rattle.cards.proofs.Contents.{card_one}

goes_then : (seen mid rest p q s t : List ℕ) → Goes seen p mid s → Goes mid q rest t → Goes seen (p ++ q) rest (s ++ t)
goes_then seen mid rest p q s t first second more out o =
    rw (append_assoc p q more, append_assoc s t out) (first (q ++ more) (t ++ out) (second more out o))

-- ---- one byte

module _ {unended line : Line} {before : List ℕ} {at byte : ℕ} where
  -- a newline: the card of the line, and an empty line
  pub took_line : {after : List ℕ} {end : ℕ} → byte ≡ newline → WroteFor CardOf unended before at after end → Holding [] line
      → WroteFor (Prints (byte ∷ []) line) unended before at after end
  took_line e w empty =
      record {
        wrote = λ seen h.
            wrote_as (λ text c. record { rest = []; holds = empty; goes = λ more out o. inl (e, text, out, c, o, refl) })
            (w.wrote seen h);
        fits = w.fits;
      }

  -- any other byte: nothing is written
  pub took_byte : byte ≢ newline → at ≤ length before → ((seen : List ℕ) → Holding seen unended → Holding (seen ++ (byte ∷ [])) line)
      → WroteFor (Prints (byte ∷ []) line) unended before at before at
  took_byte ne fits longer =
      record {
        wrote = λ seen h. record {
          text = [];
          such = record { rest = seen ++ (byte ∷ []); holds = longer seen h; goes = λ more out o. inr (ne, o) };
          written = appended_none fits;
        };
        fits = fits;
      }

-- ---- a piece, a byte a turn

pub record Feeding (piece before : List ℕ) (at : ℕ) (unended : Line) (out : List ℕ) (line : Line) (end taken : ℕ) : Type 0 where
  pub took : WroteFor (Prints (take taken piece) line) unended before at out end
  pub within : taken ≤ length piece
  pub size : length out ≡ length before
  pub unmoved : taken ≡ 0 → end ≡ at

pub feeding_start : {piece before : List ℕ} {at : ℕ} {line : Line} → at ≤ length before → Feeding piece before at line before line at 0
feeding_start h =
    record {
      took = record {
        wrote = λ seen w. record { text = []; such = record { rest = seen; holds = w; goes = λ more out o. o }; written = appended_none h };
        fits = h;
      };
      within = omega arith;
      size = refl;
      unmoved = λ _. refl;
    }

pub feeding_turn : {piece before out after : List ℕ} {at end taken end' : ℕ} {unended line line' : Line}
    → Feeding piece before at unended out line end taken
    → taken < length piece → WroteFor (Prints (get_or piece taken 0 ∷ []) line') line out end after end' → length after ≡ length out
    → Feeding piece before at unended after line' end' (taken + 1)
feeding_turn {piece} {before} {out} {after} {at} {end} {taken} {end'} {unended} {line} {line'} g h step same =
    record {
      took = record { wrote = λ seen w. then seen (g.took.wrote seen w); fits = omega (arith, step.fits, g.size) };
      within = omega arith;
      size = same ∙ g.size;
      unmoved = λ z. absurd (omega arith);
    }
  where
    then : (seen : List ℕ) → Wrote (Prints (take taken piece) line seen) before at out end
        → Wrote (Prints (take (taken + 1) piece) line' seen) before at after end'
    then seen a =
        let b = step.wrote a.such.rest a.such.holds in
        record {
          text = a.text ++ b.text;
          such = record {
            rest = b.such.rest;
            holds = b.such.holds;
            goes =
                subst (λ (l : List ℕ). Goes seen l b.such.rest (a.text ++ b.text)) (sym (take_more piece taken 0 h))
                (goes_then seen a.such.rest b.such.rest (take taken piece) (get_or piece taken 0 ∷ []) a.text b.text
                a.such.goes b.such.goes);
          };
          written = appended_then a.written b.written;
        }

-- ---- the whole input

-- the pieces, and then the end
pub output_whole : (input rest text last : List ℕ) → Goes [] input rest text → Output rest [] last → Output [] input (text ++ last)
output_whole input rest text last goes end = subst (λ (l : List ℕ). Output [] l (text ++ last)) (append-nil input) (goes [] last end)

-- no second output fits
pub output_one : (seen input : List ℕ) {a b : List ℕ} → Output seen input a → Output seen input b → a ≡ b
output_one seen [] p q = p ∙ sym q
output_one seen (byte ∷ input) (inl (e, card, rest, is, more, p)) (inl (e', card', rest', is', more', q)) =
    let c : card ≡ card' = card_one is is' in
    let r : rest ≡ rest' = output_one [] input more more' in
    p ∙ ap₂ (λ (x y : List ℕ). x ++ y) c r ∙ sym q
output_one seen (byte ∷ input) (inl p) (inr q) = absurd (q.0 p.0)
output_one seen (byte ∷ input) (inr p) (inl q) = absurd (p.0 q.0)
output_one seen (byte ∷ input) (inr p) (inr q) = output_one (seen ++ (byte ∷ [])) input p.1 q.1
