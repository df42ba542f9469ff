-- From the start, step n hands out f(n mod K), and so does the address call at n, whatever n is; and a walker, the address call and the
-- address list agree at every position.
use mathlib.Core.Path.{◌≡◌, refl, sym, ap, subst, ◌∙◌}
use mathlib.Core.List.{List, [], ◌∷◌}
use Prim.Native.Nat.{ℕ, zero, suc, ◌+◌, ◌%◌, ◌<◌}
use native.Mathlib.Nat.{mod-lt, mod-add-mod, add-mod_right, zero-mod}
use native.Mathlib.Numerals.{add-one}
use native.Mathlib.Omega.{arith}
use lib.ListN.{length, get_or}
use Rattle.permuting.specs.Formulas.{Formula}
use Rattle.triples.specs.declared.Triple.{Triple}
use Rattle.triples.specs.Shuffles.{f, quadratic, InRange, Shuffle}
use Rattle.qpp.specs.declared.walker.Walker.{Walker}
use Rattle.qpp.specs.declared.walker.Start.{Start}
use Rattle.qpp.specs.declared.walker.Step.{Step}
use Rattle.qpp.specs.declared.answers.Value.{Value}
use Rattle.qpp.specs.Promises.{Address, AddressList}
use Rattle.qpp.specs.Walkers.{walker, step_tests, Started, Stepped, Walk}
use Rattle.refusals.specs.Refusals.{no_list}
use Rattle.refusals.proofs.Tests.{first_one, none_first}
use Rattle.qpp.proofs.Uniqueness.{address_of_remainder}
use Rattle.refusals.proofs.Acceptance.{accepted, accepted_then, none_ranged, shuffle_exactly}

-- a block further on, the same address
pub address_again : (φ : Formula) (x : ℕ) {r s : Value} → Address φ (x + φ.length) r → Address φ x s → r ≡ s
address_again φ x = address_of_remainder φ (x + φ.length) x (add-mod_right x φ.length)

-- what the step at a position hands out
record Handed (t : Triple) (at : ℕ) (s : Step) : Type 0 where
  number : s.number ≡ 0
  address : s.address ≡ f t at
  on : s.walker ≡ walker t ((at + 1) % t.k)

handed : {t : Triple} {at : ℕ} {w : Walker} {s : Step} → InRange t → at < t.k → w ≡ walker t at → Stepped w s → Handed t at s
handed {t} {at} {w} {s} range within e a = from (subst (λ (v : Walker). Stepped v s) e a)
  where
    from : Stepped (walker t at) s → Handed t at s
    from a =
        let (short, (reach, _)) = none_ranged range in
        let z : s.number ≡ 0 =
        first_one (step_tests (walker t at)) a.first (none_first (step_tests (walker t at)) (short, (reach, ((λ h. omega arith), tt))) refl) in
        record { number = z; address = (a.done z).0; on = (a.done z).1 }

module _ {t : Triple} {start : Start} {steps : ℕ → Step} (started : Started t start) (done : start.number ≡ 0)
    (walk : Walk start.walker steps) where
  shuffle : Shuffle t
  shuffle = accepted started.first done

  positive : 0 < t.k
  positive = omega (arith, shuffle.range.low)

  stride : (n : ℕ) → Handed t (n % t.k) (steps n)
  stride zero = handed shuffle.range (mod-lt 0 positive) (started.done done ∙ ap (λ (m : ℕ). walker t m) (sym (zero-mod t.k))) walk.first
  stride (suc n) =
      handed shuffle.range (mod-lt (suc n) positive)
      ((stride n).on ∙ ap (λ (m : ℕ). walker t m) (mod-add-mod n t.k 1 ∙ ap (λ (m : ℕ). m % t.k) (add-one n)))
      (walk.next n)

  pub walk_addresses : (n : ℕ) → ((steps n).number ≡ 0) × ((steps n).address ≡ f t (n % t.k))
  walk_addresses n = ((stride n).number, (stride n).address)

  -- the call at n answers what step n hands out
  pub walk_called : (n : ℕ) {r : Value} → Address (quadratic t) n r → (r.number ≡ (steps n).number) × (r.value ≡ (steps n).address)
  walk_called n called =
      let z = (shuffle_exactly called.first).1 shuffle in (z ∙ sym (stride n).number, called.done z ∙ sym (stride n).address)

-- at the entry of x mod K of a listed shuffle, all three hand out the same address
pub three_agree : {t : Triple} (x : ℕ) {n : ℕ} {r : Value} {s : Step} {before after : List ℕ} → AddressList (quadratic t) before n after → n ≡ 0
    → Address (quadratic t) x r → Stepped (walker t (x % t.k)) s → (r.value ≡ get_or after (x % t.k) 0) × (s.address ≡ get_or after (x % t.k) 0)
three_agree {t} x {n} {r} {s} {before} {after} list z called stepped =
    let shuffle = accepted_then (no_list (λ n. n ≡ t.k) (length before) ∷ []) list.first z in
    let within = mod-lt x {m = t.k} (omega (arith, shuffle.range.low)) in
    let here : get_or after (x % t.k) 0 ≡ f t (x % t.k) = (list.done z).entries (x % t.k) within in
    (called.done ((shuffle_exactly called.first).1 shuffle) ∙ sym here, (handed shuffle.range within refl stepped).address ∙ sym here)
