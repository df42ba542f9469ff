-- Texts that are written into a buffer, one after the other.
use mathlib.Core.Path.{◌≡◌, refl, sym, ap, subst, ◌∙◌}
use mathlib.Core.List.{List, [], ◌∷◌, ◌++◌, append_assoc, append-nil}
use Prim.Native.Nat.{ℕ, ◌+◌, ◌≤◌, ◌<◌}
use native.Mathlib.Omega.{arith}
use lib.ListN.{length, get_or, take, drop, length-append, length-drop, take-append-drop}
use lib.Seq.{length-take-le, take_at, drop-append-add, drop-drop}
use Rattle.std.proofs.lemmas.List.{take_more}
use Rattle.cards.specs.Texts.{space, decimal, fields, Appended, Wrote}

-- a buffer keeps its length
pub appended_length : {before : List ℕ} {at : ℕ} {text after : List ℕ} {end : ℕ} → Appended before at text after end → length after ≡ length before
appended_length {before} {at} {text} {after} {end} a =
    let l : length (take at before) ≡ at = length-take-le at before (omega (arith, a.size, a.fits)) in
    ap length a.bytes ∙ simp (length-append, length-drop) (omega (arith, a.size, a.fits))

-- one buffer and one end fit a text
appended_one : {before : List ℕ} {at : ℕ} {text a b : List ℕ} {end end' : ℕ} → Appended before at text a end → Appended before at text b end'
    → (a ≡ b) × (end ≡ end')
appended_one {before} {at} {text} p q =
    let e = p.size ∙ sym q.size in
    (p.bytes ∙ ap (λ (n : ℕ). take at before ++ (text ++ drop n before)) e ∙ sym q.bytes, e)

pub appended_none : {before : List ℕ} {at : ℕ} → at ≤ length before → Appended before at [] before at
appended_none {before} {at} h = record { bytes = sym (take-append-drop at before); size = omega arith; fits = h }

-- one text and then another
pub appended_then : {a b c : List ℕ} {at mid end : ℕ} {s t : List ℕ} → Appended a at s b mid → Appended b mid t c end → Appended a at (s ++ t) c end
appended_then {a} {b} {c} {at} {mid} {end} {s} {t} p q =
    record {
      bytes =
          q.bytes
          ∙ ap (λ (l : List ℕ). l ++ (t ++ drop end b)) front
          ∙ ap (λ (l : List ℕ). (take at a ++ s) ++ (t ++ l)) back
          ∙ simp append_assoc;
      size = q.size ∙ omega (arith, p.size, length-append s t);
      fits = omega (arith, q.fits, appended_length p);
    }
  where
    head : length (take at a ++ s) ≡ mid
    head =
        let l : length (take at a) ≡ at = length-take-le at a (omega (arith, p.size, p.fits)) in
        length-append (take at a) s ∙ omega (arith, p.size)

    apart : b ≡ (take at a ++ s) ++ drop mid a
    apart = p.bytes ∙ sym (append_assoc (take at a) s (drop mid a))

    front : take mid b ≡ take at a ++ s
    front = ap (take mid) apart ∙ take_at (take at a ++ s) (drop mid a) mid head

    back : drop end b ≡ drop end a
    back =
        ap (drop end) apart
        ∙ ap (λ (n : ℕ). drop n ((take at a ++ s) ++ drop mid a)) (q.size ∙ ap (λ (n : ℕ). n + length t) (sym head))
        ∙ drop-append-add (take at a ++ s) (drop mid a) (length t)
        ∙ drop-drop (length t) mid a
        ∙ ap (λ (n : ℕ). drop n a) (sym q.size)

-- the same text said otherwise
pub appended_as : {a b : List ℕ} {at end : ℕ} {s t : List ℕ} → s ≡ t → Appended a at s b end → Appended a at t b end
appended_as {a} {b} {at} {end} e p = subst (λ (l : List ℕ). Appended a at l b end) e p

-- ---- a text that is such

pub wrote_as : {P Q : List ℕ → Type 0} {before after : List ℕ} {at end : ℕ} → ((text : List ℕ) → P text → Q text)
    → Wrote P before at after end → Wrote Q before at after end
wrote_as g w = record { text = w.text; such = g w.text w.such; written = w.written }

-- one such text, and so one buffer and one end
pub wrote_one : {P : List ℕ → Type 0} {before a b : List ℕ} {at end end' : ℕ} → ((s t : List ℕ) → P s → P t → s ≡ t)
    → Wrote P before at a end → Wrote P before at b end' → (a ≡ b) × (end ≡ end')
wrote_one one p q = appended_one p.written (appended_as (one q.text p.text q.such p.such) q.written)

-- ---- numbers, a space before each

pub fields_then : (a b : List ℕ) → fields (a ++ b) ≡ fields a ++ fields b
fields_then [] b = refl
fields_then (n ∷ a) b = ap (λ (l : List ℕ). space ∷ l) (ap (λ (l : List ℕ). decimal n ++ l) (fields_then a b) ∙ sym (append_assoc (decimal n) (fields a) (fields b)))

pub fields_next : (numbers : List ℕ) (i : ℕ) → i < length numbers
    → fields (take (i + 1) numbers) ≡ fields (take i numbers) ++ (space ∷ decimal (get_or numbers i 0))
fields_next numbers i h =
    ap fields (take_more numbers i 0 h) ∙ fields_then (take i numbers) (get_or numbers i 0 ∷ [])
    ∙ ap (λ (l : List ℕ). fields (take i numbers) ++ (space ∷ l)) (append-nil (decimal (get_or numbers i 0)))
