-- A permutation comes to every position and keeps how many elements pass a test, whatever the test; interleaving and deinterleaving have one
-- answer each, and each undoes the other.
use mathlib.Core.Path.{◌≡◌, refl, sym, ap, ap₂, ◌∙◌}
use mathlib.Core.Logic.{◌≢◌}
use mathlib.Core.List.{List, [], ◌∷◌}
use mathlib.Core.Bool.{Bool, true, false, not}
use Prim.Native.Nat.{ℕ, zero, suc, ◌+◌, ◌≤◌, ◌<◌, suc-le-suc}
use native.Mathlib.Nat.{le_of_suc-le-suc, not-suc-le-zero}
use native.Mathlib.Omega.{arith}
use lib.Dec.{eqb}
use lib.ListN.{length, get_or, set}
use lib.Seq.{get_or-set_other, ext_get_or}
use borrow.Author.Tests.{eq-eqb, eqb-true}
use Rattle.permuting.specs.Tabulation.{tab}
use Rattle.permuting.specs.Permutations.{Permutation, Interleaved, Deinterleaved, count, one_if}
use Rattle.permuting.proofs.Tabulation.{length_tab, get_or_tab, is_tab}

-- ---- by weights: a map that takes no two positions to one meets no more weight than there is; so no test is passed more often after than
-- before, nor is its contrary, and together they are passed by all

sum : List ℕ → ℕ
sum [] = 0
sum (x ∷ w) = x + sum w

-- the weight met at π 0 .. π (n - 1)
met : List ℕ → (ℕ → ℕ) → ℕ → ℕ
met w π zero = 0
met w π (suc n) = met w π n + get_or w (π n) 0

sum_set : (w : List ℕ) (v : ℕ) → sum (set w v 0) + get_or w v 0 ≡ sum w
unfolding sum
sum_set [] v = refl
sum_set (x ∷ w) zero = omega arith
sum_set (x ∷ w) (suc v) = let ih = sum_set w v in omega arith

met_set : (w : List ℕ) (π : ℕ → ℕ) (v n : ℕ) → ((i : ℕ) → i < n → π i ≢ v) → met (set w v 0) π n ≡ met w π n
unfolding met
met_set w π v zero h = refl
met_set w π v (suc n) h =
    ap₂ (λ (a b : ℕ). a + b) (met_set w π v n (λ i b. h i (omega arith))) (get_or-set_other w v (π n) 0 0 (h n (omega arith)))

met_le : (w : List ℕ) (π : ℕ → ℕ) (n : ℕ) → ((i j : ℕ) → i < n → j < n → π i ≡ π j → i ≡ j) → met w π n ≤ sum w
unfolding met
met_le w π zero h = omega arith
met_le w π (suc n) h =
    let ne : (i : ℕ) → i < n → π i ≢ π n = λ i b e. let s : i ≡ n = h i n (omega arith) (omega arith) e in omega arith in
    let ih = met_le (set w (π n) 0) π n (λ i j a b e. h i j (omega arith) (omega arith) e) in
    omega (arith, sum_set w (π n), met_set w π (π n) n ne)

module _ {A : Type 0} (d : A) (p : A → Bool) where
  weigh : List A → List ℕ
  weigh [] = []
  weigh (x ∷ xs) = one_if (p x) ∷ weigh xs

  sum_weigh : (xs : List A) → sum (weigh xs) ≡ count p xs
  unfolding weigh sum count
  sum_weigh [] = refl
  sum_weigh (x ∷ xs) = ap (λ (n : ℕ). one_if (p x) + n) (sum_weigh xs)

  get_or_weigh : (xs : List A) (j : ℕ) → j < length xs → get_or (weigh xs) j 0 ≡ one_if (p (get_or xs j d))
  unfolding weigh
  get_or_weigh [] j h = absurd (not-suc-le-zero h)
  get_or_weigh (x ∷ xs) zero h = refl
  get_or_weigh (x ∷ xs) (suc j) h = get_or_weigh xs j (le_of_suc-le-suc h)

  count_tab : (f : ℕ → A) (n : ℕ) → count p (tab f (suc n)) ≡ count p (tab f n) + one_if (p (f n))
  unfolding tab count
  count_tab f zero = omega arith
  count_tab f (suc n) = let ih = count_tab (λ i. f (suc i)) n in omega arith

  count_met : (xs : List A) (π : ℕ → ℕ) (n : ℕ) → ((i : ℕ) → i < n → π i < length xs) → count p (tab (λ i. get_or xs (π i) d) n) ≡ met (weigh xs) π n
  unfolding met
  count_met xs π zero h = unfold tab count in refl
  count_met xs π (suc n) h =
      count_tab (λ i. get_or xs (π i) d) n
      ∙ ap₂ (λ (a b : ℕ). a + b) (count_met xs π n (λ i b. h i (omega arith))) (sym (get_or_weigh xs (π n) (h n (omega arith))))

  no_more : {n : ℕ} {π : ℕ → ℕ} {before after : List A} → Permutation n π → length before ≡ n → Interleaved d π before after
      → count p after ≤ count p before
  no_more {n} {π} {before} {after} perm l m =
      let t = is_tab d after (λ i. get_or before (π i) d) n (m.size ∙ l) (λ i b. m.holds i (rw l b)) in
      let e = ap (λ (x : List A). count p x) t ∙ count_met before π n (λ i b. rw l (perm.within i b)) in
      omega (arith, sum_weigh before, met_le (weigh before) π n perm.apart)

  passed : (l : List A) (i : ℕ) → i < length l → p (get_or l i d) ≡ true → 0 < count p l
  unfolding count
  passed [] i h e = absurd (not-suc-le-zero h)
  passed (x ∷ l) zero h e = let z : one_if (p x) ≡ 1 = ap one_if e in omega arith
  passed (x ∷ l) (suc i) h e = let ih = passed l i (le_of_suc-le-suc h) e in omega arith

  found : (l : List A) → 0 < count p l → (i : ℕ) × (i < length l) × (p (get_or l i d) ≡ true)
  unfolding count
  found [] h = absurd (not-suc-le-zero h)
  found (x ∷ l) h = go (p x) refl (λ g. found l g)
    where
      go : (b : Bool) → p x ≡ b → (0 < count p l → (i : ℕ) × (i < length l) × (p (get_or l i d) ≡ true))
          → (i : ℕ) × (i < suc (length l)) × (p (get_or (x ∷ l) i d) ≡ true)
      go true e rest = (0, omega arith, e)
      go false e rest =
          let z : one_if (p x) ≡ 0 = ap one_if e in let r = rest (omega arith) in (suc r.0, suc-le-suc r.1, r.2)

both : {A : Type 0} (p : A → Bool) (xs : List A) → count p xs + count (λ a. not (p a)) xs ≡ length xs
unfolding count
both p [] = refl
both p (x ∷ xs) = go (both p xs) (p x)
  where
    go : count p xs + count (λ a. not (p a)) xs ≡ length xs → (b : Bool)
        → one_if b + count p xs + (one_if (not b) + count (λ a. not (p a)) xs) ≡ suc (length xs)
    go ih true = omega arith
    go ih false = omega arith

-- every test is passed as often after as before
pub interleaved_count : {A : Type 0} {d : A} {n : ℕ} {π : ℕ → ℕ} {before after : List A} → Permutation n π → length before ≡ n
    → Interleaved d π before after → (p : A → Bool) → count p after ≡ count p before
interleaved_count {A} {d} {n} {π} {before} {after} perm l m p =
    omega (arith, no_more d p perm l m, no_more d (λ x. not (p x)) perm l m, both p before, both p after, m.size)

-- a permutation comes to every position below n
pub onto : {n : ℕ} {π : ℕ → ℕ} → Permutation n π → (y : ℕ) → y < n → (i : ℕ) × (i < n) × (π i ≡ y)
onto {n} {π} perm y h =
    let l = length_tab (λ i. i) n in
    from (found 0 is_y (tab π n) (omega (arith, interleaved_count perm l images is_y, passed 0 is_y (tab (λ i. i) n) y (rw length_tab h) y_there)))
  where
    is_y : ℕ → Bool
    is_y a = eqb a y

    -- the positions, interleaved, are their images
    images : Interleaved 0 π (tab (λ i. i) n) (tab π n)
    images = record {
      size = length_tab π n ∙ sym (length_tab (λ i. i) n);
      holds = λ i b. let b' : i < n = rw length_tab at b in get_or_tab π n i 0 b' ∙ sym (get_or_tab (λ i. i) n (π i) 0 (perm.within i b'));
    }

    y_there : is_y (get_or (tab (λ i. i) n) y 0) ≡ true
    y_there = ap is_y (get_or_tab (λ i. i) n y 0 h) ∙ eq-eqb y y refl

    from : (i : ℕ) × (i < length (tab π n)) × (is_y (get_or (tab π n) i 0) ≡ true) → (i : ℕ) × (i < n) × (π i ≡ y)
    from (i, l, e) = let b : i < n = rw length_tab at l in (i, b, sym (get_or_tab π n i 0 b) ∙ eqb-true (get_or (tab π n) i 0) y e)

-- ---- interleaving and deinterleaving: to deinterleave is to interleave read backwards, so each law is proved once

module _ {A : Type 0} {d : A} {π : ℕ → ℕ} where
  pub backwards : {a b : List A} → Deinterleaved d π a b → Interleaved d π b a
  backwards {a} {b} m = record { size = sym m.size; holds = λ i h. sym (m.holds i (rw (← m.size) h)) }

  pub interleaved_one : {a b b' : List A} → Interleaved d π a b → Interleaved d π a b' → b ≡ b'
  interleaved_one {a} {b} {b'} m m' =
      ext_get_or d b b' (m.size ∙ sym m'.size) (λ i h. let h' : i < length a = rw m.size at h in m.holds i h' ∙ sym (m'.holds i h'))

  -- what is interleaved says what it was
  pub interleaved_from_one : {n : ℕ} {a a' b : List A} → Permutation n π → length b ≡ n → Interleaved d π a b → Interleaved d π a' b → a ≡ a'
  interleaved_from_one {n} {a} {a'} {b} perm l m m' =
      ext_get_or d a a' (sym m.size ∙ m'.size) (λ y h. at y (onto perm y (rw (← l, m.size) h)))
    where
      at : (y : ℕ) → (i : ℕ) × (i < n) × (π i ≡ y) → get_or a y d ≡ get_or a' y d
      at y o =
          let h : o.0 < length b = rw l o.1 in
          ap (λ (x : ℕ). get_or a x d) (sym o.2) ∙ sym (m.holds o.0 (rw (← m.size) h)) ∙ m'.holds o.0 (rw (← m'.size) h)
          ∙ ap (λ (x : ℕ). get_or a' x d) o.2

  pub deinterleaved_one : {n : ℕ} {a b b' : List A} → Permutation n π → length a ≡ n → Deinterleaved d π a b → Deinterleaved d π a b' → b ≡ b'
  deinterleaved_one perm l m m' = interleaved_from_one perm l (backwards m) (backwards m')

  pub interleave_then_deinterleave : {n : ℕ} {a b c : List A} → Permutation n π → length a ≡ n → Interleaved d π a b → Deinterleaved d π b c → c ≡ a
  interleave_then_deinterleave perm l m m' = interleaved_from_one perm (m.size ∙ l) (backwards m') m

  pub deinterleave_then_interleave : {a b c : List A} → Deinterleaved d π a b → Interleaved d π b c → c ≡ a
  deinterleave_then_interleave m m' = interleaved_one m' (backwards m)

  pub deinterleaved_count : {n : ℕ} {a b : List A} → Permutation n π → length a ≡ n → Deinterleaved d π a b → (p : A → Bool) → count p b ≡ count p a
  deinterleaved_count perm l m p = sym (interleaved_count perm (m.size ∙ l) (backwards m) p)

-- no map takes n positions to fewer, and each to another
pub no_room : (n m : ℕ) (π : ℕ → ℕ) → m < n → ((i : ℕ) → i < n → π i < m) → ((i j : ℕ) → i < n → j < n → π i ≡ π j → i ≡ j) → ⊥
no_room n m π less within apart =
    let (i, l, e) = onto (record { within = λ i l. omega (arith, within i l); apart = apart }) m less in omega (arith, within i l)
