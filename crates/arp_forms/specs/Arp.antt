-- To be believed: the almost regular (ARP) form.
use Rattle.std.specs.Prelude.{◌≡◌, List, ℕ, ◌+◌, ◌*◌, ◌%◌, ◌≤◌, ◌<◌, get_or}
use Rattle.std.specs.Int.{◌∣◌}
use Rattle.numbers.specs.Divisors.{Coprime}
use Rattle.triples.specs.declared.Triple.{Triple}
use Rattle.triples.specs.Shuffles.{f, odd_form}
use Rattle.numbers.specs.Lists.{Written}

-- The shift of j: f2·j² mod K.
abbrev pub shift : Triple → ℕ → ℕ
shift t j = t.f2 * (j * j) % t.k

-- f2·i² mod K repeats with period q.
abbrev pub Repeats : Triple → ℕ → Type 0
Repeats t q = (i : ℕ) → shift t (i + q) ≡ shift t i

-- K divides both f2·q² and 2·f2·q. That this says the same as `Repeats` is proved.
pub record Divided (t : Triple) (q : ℕ) : Type 0 where
  pub square : t.k ∣ t.f2 * (q * q)
  pub double : t.k ∣ 2 * t.f2 * q

-- Q is the least divisor of K for which f2·i² mod K repeats with period Q.
pub record Period (t : Triple) (q : ℕ) : Type 0 where
  pub divides : q ∣ t.k
  pub repeats : Repeats t q
  pub least : (p : ℕ) → p ∣ t.k → Repeats t p → q ≤ p

-- P is f1 and Q the period, with f1 and f2 of the odd form.
pub record ArpNumbers (t : Triple) (p q : ℕ) : Type 0 where
  pub first : p ≡ (odd_form t).f1
  pub period : Period (odd_form t) q

-- The list holds S[0] to S[Q-1] and then what it held before; P shares no factor with K; and position i goes to
-- (P·i + S[i mod Q]) mod K.
pub record Arp (t : Triple) (p q : ℕ) (before after : List ℕ) : Type 0 where
  pub numbers : ArpNumbers t p q
  pub coprime : Coprime p t.k
  pub shifts : Written (shift (odd_form t)) q before after
  pub addresses : (i : ℕ) → i < t.k → (p * i + get_or after (i % q) 0) % t.k ≡ f t i
