-- The shifts, the addresses that they give, and that one form fits.
use mathlib.Core.Path.{◌≡◌, refl, sym, ap, subst, subst₂, ◌∙◌}
use mathlib.Core.List.{List}
use Prim.Native.Nat.{ℕ, zero, suc, ◌+◌, ◌*◌, ◌/◌, ◌%◌, ◌<◌}
use native.Mathlib.Nat.{mod-lt, mod-add-div', le_antisymm, pos_of_dvd_of_pos}
use native.Mathlib.Omega.{arith}
use lib.ListN.{get_or}
use Rattle.numbers.specs.Divisors.{Coprime}
use Rattle.numbers.proofs.Congruences.{cong_eq, cong_sym, cong_same, cong_add, cong_mod, ◌⨾◌}
use Rattle.triples.specs.declared.Triple.{Triple}
use Rattle.triples.specs.Shuffles.{triple, f, Shuffle, odd_form}
use Rattle.numbers.specs.Lists.{Written}
use Rattle.numbers.proofs.Lists.{written_one}
use Rattle.acceptance.proofs.Rule.{OddUnit, odd_unit}
use Rattle.arp_forms.specs.Arp.{shift, Repeats, Period, ArpNumbers, Arp}

-- the shifts are the addresses of the triple without its first coefficient
pub without_first : (t : Triple) (j : ℕ) → f (triple t.k 0 t.f2) j ≡ shift t j
without_first t j = ap (λ (n : ℕ). n % t.k) (omega arith)

repeats_often : (t : Triple) (q : ℕ) → Repeats t q → (n i : ℕ) → shift t (i + n * q) ≡ shift t i
repeats_often t q r zero i = ap (λ (m : ℕ). shift t m) (omega arith)
repeats_often t q r (suc n) i =
    ap (λ (m : ℕ). shift t m) {y = i + n * q + q} (omega arith) ∙ r (i + n * q) ∙ repeats_often t q r n i

pub arp_form : {t o : Triple} {p q : ℕ} {before after : List ℕ} → Shuffle t → ArpNumbers t p q → o ≡ odd_form t → Written (shift o) q before after
    → Arp t p q before after
arp_form {t} {o} {p} {q} {before} {after} s numbers odd written =
    record {
      numbers = numbers;
      coprime = subst₂ (λ (n k : ℕ). Coprime n k) (sym numbers.first) unit.length unit.coprime;
      shifts = shifts;
      addresses = λ i h. ap (λ (n : ℕ). (n * i + get_or after (i % q) 0) % t.k) numbers.first ∙ addresses i h;
    }
  where
    unit : OddUnit t (odd_form t)
    unit = odd_unit s refl

    shifts : Written (shift (odd_form t)) q before after
    shifts = subst (λ (o : Triple). Written (shift o) q before after) odd written

    pos : 0 < q
    pos = pos_of_dvd_of_pos numbers.period.divides (omega (arith, unit.length, s.range.low))

    shifted : (i : ℕ) → get_or after (i % q) 0 ≡ shift (odd_form t) i
    shifted i =
        shifts.entries (i % q) (mod-lt i pos)
        ∙ sym (repeats_often (odd_form t) q numbers.period.repeats (i / q) (i % q))
        ∙ ap (λ (m : ℕ). shift (odd_form t) m) (mod-add-div' i q)

    addresses : (i : ℕ) → i < t.k → ((odd_form t).f1 * i + get_or after (i % q) 0) % t.k ≡ f t i
    addresses i h =
        subst (λ (k : ℕ). ((odd_form t).f1 * i + get_or after (i % q) 0) % k ≡ f (odd_form t) i) unit.length
        (cong_same (cong_add (cong_eq {x = (odd_form t).f1 * i} refl) (cong_eq (shifted i) ⨾ cong_sym (cong_mod (odd_form t).k ((odd_form t).f2 * (i * i))))))
        ∙ unit.same i

-- ---- one form fits

pub period_one : {t : Triple} {p q : ℕ} → Period t p → Period t q → p ≡ q
period_one {t} {p} {q} a b = le_antisymm (a.least q b.divides b.repeats) (b.least p a.divides a.repeats)

pub arp_numbers_one : {t : Triple} {p q p' q' : ℕ} → ArpNumbers t p q → ArpNumbers t p' q' → (p ≡ p') × (q ≡ q')
arp_numbers_one a b = (a.first ∙ sym b.first, period_one a.period b.period)

pub arp_one : {t : Triple} {p q p' q' : ℕ} {before a b : List ℕ} → Arp t p q before a → Arp t p' q' before b → (p ≡ p') × (q ≡ q') × (a ≡ b)
arp_one {t} {p} {q} {p'} {q'} {before} {a} {b} x y =
    let (first, same) = arp_numbers_one x.numbers y.numbers in
    (first, same, written_one (subst (λ (n : ℕ). Written (shift (odd_form t)) n before a) same x.shifts) y.shifts)
