-- The marks of a walk along the cycles of a map π, with no word of what is moved. Every seen place was reached from a seen one, but for the
-- start of the cycle that is being walked; so, π taking no two places to one, the walk comes back nowhere but at its start.
use mathlib.Core.Path.{◌≡◌, refl, sym, ap, ◌∙◌}
use mathlib.Core.Logic.{◌≢◌, ◌⊎◌, inl, inr, ⊎_elim, by_cases}
use mathlib.Core.List.{List, [], ◌∷◌}
use mathlib.Core.Bool.{Bool, true, false, not}
use Prim.Native.Nat.{ℕ, zero, suc, ◌+◌, ◌≤◌, ◌<◌}
use native.Mathlib.Nat.{le_of_suc-le-suc, not-suc-le-zero}
use native.Mathlib.Decide.{ℕ_discrete, dec_lt}
use native.Mathlib.Omega.{arith}
use lib.ListN.{length, get_or, set, length-set}
use lib.Seq.{get_or-set_same, get_or-set_other}
use Rattle.std.proofs.lemmas.Bool.{true≢false}
use Rattle.permuting.specs.Permutations.{Permutation, count}

-- ---- a list of marks, and one mark more

abbrev pub Seen : List Bool → ℕ → Type 0
Seen ms j = get_or ms j false ≡ true

abbrev pub Unseen : List Bool → ℕ → Type 0
Unseen ms j = get_or ms j false ≡ false

pub clash : {C : Type 0} {b : Bool} → b ≡ true → b ≡ false → C
clash p q = absurd (true≢false (sym p ∙ q))

pub either : {C : Type 0} (b : Bool) → (b ≡ true → C) → (b ≡ false → C) → C
either true f g = f refl
either false f g = g refl

-- a mark at a place that had none leaves fewer places without
pub fewer_unseen : (ms : List Bool) (i : ℕ) → i < length ms → Unseen ms i → count not (set ms i true) < count not ms
unfolding count
fewer_unseen [] i h e = absurd (not-suc-le-zero h)
fewer_unseen (true ∷ ms) zero h e = clash refl e
fewer_unseen (false ∷ ms) zero h e = omega arith
fewer_unseen (m ∷ ms) (suc i) h e = let ih = fewer_unseen ms i (le_of_suc-le-suc h) e in omega arith

module _ (ms : List Bool) (i : ℕ) (h : i < length ms) where
  pub seen_now : Seen (set ms i true) i
  seen_now = get_or-set_same ms i true false h

  pub seen_still : (j : ℕ) → Seen ms j → Seen (set ms i true) j
  seen_still j m =
      by_cases (ℕ_discrete j i) (λ e. ap (λ (x : ℕ). get_or (set ms i true) x false) e ∙ seen_now) (λ n. get_or-set_other ms i j true false n ∙ m)

  pub seen_how : (j : ℕ) → Seen (set ms i true) j → (j ≡ i) ⊎ Seen ms j
  seen_how j m = by_cases (ℕ_discrete j i) inl (λ n. inr (sym (get_or-set_other ms i j true false n) ∙ m))

  pub unseen_other : (j : ℕ) → Unseen (set ms i true) j → j ≢ i
  unseen_other j m e = clash (ap (λ (x : ℕ). get_or (set ms i true) x false) e ∙ seen_now) m

  pub unseen_before : (j : ℕ) → Unseen (set ms i true) j → Unseen ms j
  unseen_before j m = sym (get_or-set_other ms i j true false (unseen_other j m)) ∙ m

-- ---- the walk

-- a seen place goes to j
pub record Reached (k : ℕ) (π : ℕ → ℕ) (ms : List Bool) (j : ℕ) : Type 0 where
  pub from : ℕ
  pub from_lt : from < k
  pub from_seen : Seen ms from
  pub goes : π from ≡ j

-- between two cycles: every place below start is on one that was walked
pub record OffCycle (k : ℕ) (π : ℕ → ℕ) (ms : List Bool) (start : ℕ) : Type 0 where
  pub len : length ms ≡ k
  pub below : (j : ℕ) → j < start → Seen ms j
  pub reached : (j : ℕ) → j < k → Seen ms j → Reached k π ms j

-- on the cycle of start, come to the place i, which is not seen yet
pub record OnCycle (k : ℕ) (π : ℕ → ℕ) (ms : List Bool) (start i : ℕ) : Type 0 where
  pub len : length ms ≡ k
  pub start_lt : start < k
  pub i_lt : i < k
  pub below : (j : ℕ) → j < start → Seen ms j
  pub reached : (j : ℕ) → j < k → Seen ms j → (j ≡ start) ⊎ Reached k π ms j
  pub unseen : Unseen ms i
  pub came : (i ≡ start) ⊎ (Seen ms start × Reached k π ms i)

module _ {k : ℕ} {π : ℕ → ℕ} {ms : List Bool} where
  pub cycles_begin : length ms ≡ k → ((j : ℕ) → Unseen ms j) → OffCycle k π ms 0
  cycles_begin l none = record { len = l; below = λ j b. absurd (omega arith); reached = λ j b m. clash m (none j) }

  -- seen places are passed over
  pub cycles_skip : {start : ℕ} (r : ℕ) → OffCycle k π ms start → ((j : ℕ) → start ≤ j → j < r → Seen ms j) → OffCycle k π ms r
  cycles_skip {start} r t h = record {
    len = t.len;
    below = λ j b. by_cases (dec_lt j start) (λ s. t.below j s) (λ n. h j (omega arith) b);
    reached = t.reached;
  }

  pub cycle_open : {start : ℕ} → OffCycle k π ms start → start < k → Unseen ms start → OnCycle k π ms start start
  cycle_open r h n = record {
    len = r.len;
    start_lt = h;
    i_lt = h;
    below = r.below;
    reached = λ j b m. inr (r.reached j b m);
    unseen = n;
    came = inl refl;
  }

module _ {k : ℕ} {π : ℕ → ℕ} (perm : Permutation k π) {ms : List Bool} {start i : ℕ} (t : OnCycle k π ms start i) where
  pub in_marks : i < length ms
  in_marks = rw t.len t.i_lt

  -- no seen place goes where i goes
  lone : (q : ℕ) → q < k → Seen ms q → π q ≢ π i
  lone q b m e = clash (ap (λ (x : ℕ). get_or ms x false) (sym (perm.apart q i b t.i_lt e)) ∙ m) t.unseen

  lone_reached : {j : ℕ} → Reached k π ms j → j ≢ π i
  lone_reached f e = lone f.from f.from_lt f.from_seen (f.goes ∙ e)

  -- where the walk does not come back to its start, it comes to a place that is not seen, and not to i again
  pub next_unseen : π i ≢ start → Unseen ms (π i)
  next_unseen ne =
      either (get_or ms (π i) false)
      (λ m. ⊎_elim (λ e. absurd (ne e)) (λ f. absurd (lone_reached f refl)) (t.reached (π i) (perm.within i t.i_lt) m)) (λ n. n)

  pub next_other : π i ≢ start → π i ≢ i
  next_other ne e = ⊎_elim (λ s. ne (e ∙ s)) (λ c. lone_reached c.1 (sym e)) t.came

  more : {j : ℕ} → Reached k π ms j → Reached k π (set ms i true) j
  more f = record { from = f.from; from_lt = f.from_lt; from_seen = seen_still ms i in_marks f.from f.from_seen; goes = f.goes }

  next_reached : Reached k π (set ms i true) (π i)
  next_reached = record { from = i; from_lt = t.i_lt; from_seen = seen_now ms i in_marks; goes = refl }

  reached_more : (j : ℕ) → j < k → Seen (set ms i true) j → (j ≡ start) ⊎ Reached k π (set ms i true) j
  reached_more j b m =
      ⊎_elim (λ e. ⊎_elim (λ s. inl (e ∙ s)) (λ c. inr (rw e (more c.1))) t.came)
      (λ old. ⊎_elim inl (λ f. inr (more f)) (t.reached j b old)) (seen_how ms i in_marks j m)

  pub start_seen : Seen (set ms i true) start
  start_seen =
      ⊎_elim (λ s. ap (λ (x : ℕ). get_or (set ms i true) x false) (sym s) ∙ seen_now ms i in_marks)
      (λ c. seen_still ms i in_marks start c.0) t.came

  pub cycle_step : π i ≢ start → OnCycle k π (set ms i true) start (π i)
  cycle_step ne = record {
    len = length-set ms i true ∙ t.len;
    start_lt = t.start_lt;
    i_lt = perm.within i t.i_lt;
    below = λ j b. seen_still ms i in_marks j (t.below j b);
    reached = reached_more;
    unseen = get_or-set_other ms i (π i) true false (next_other ne) ∙ next_unseen ne;
    came = inr (start_seen, next_reached);
  }

  pub cycle_close : π i ≡ start → OffCycle k π (set ms i true) (start + 1)
  cycle_close e = record {
    len = length-set ms i true ∙ t.len;
    below = λ j b. by_cases (ℕ_discrete j start) (λ s. rw s start_seen) (λ n. seen_still ms i in_marks j (t.below j (omega arith)));
    reached = λ j b m. ⊎_elim (λ s. let z : j ≡ π i = s ∙ sym e in rw z next_reached) (λ f. f) (reached_more j b m);
  }
