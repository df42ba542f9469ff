-- The search for the spread, which goes up through the distances.
use mathlib.Core.Path.{◌≡◌, refl, sym, subst, ◌∙◌}
use mathlib.Core.Logic.{◌⊎◌, inl, inr, ⊎_elim, by_cases}
use Prim.Native.Nat.{ℕ, ◌+◌, ◌-◌, ◌/◌, ◌%◌, ◌≤◌, ◌<◌, min}
use native.Mathlib.Nat.{mod-lt, div-add-mod, le_trans, lt_of_le_of_lt, lt_of_lt_of_le}
use native.Mathlib.Decide.{ℕ_discrete, dec_lt}
use native.Mathlib.Omega.{arith}
use Rattle.numbers.specs.Congruences.{Cong}
use Rattle.numbers.proofs.Congruences.{cong_sym, cong_mod, cong_small, ◌⨾◌}
use Rattle.spreading.specs.Spreads.{line, circular, Spreads, Spread}
use Rattle.spreading.specs.Minima.{Least, gap}
use Rattle.spreading.proofs.Circles.{circular_swap, circular_some, further_on, ahead}

module _ (φ : ℕ → ℕ) (n : ℕ) where
  -- two addresses r apart at positions less than s apart
  pub record Near (s r : ℕ) : Type 0 where
    pub at : ℕ
    pub step : ℕ
    pub within : at < n
    pub some : 0 < step
    pub less : step < s
    pub short : step < n
    pub met : r ≡ gap φ n step at

  -- addresses at positions less than s apart are at least `least` apart, which is at least s
  pub record Searching (s least : ℕ) : Type 0 where
    pub low : 1 ≤ s
    pub fits : s ≤ least
    pub top : least ≤ n
    pub far : (d x : ℕ) → 0 < d → d < s → x < n → least ≤ gap φ n d x
    pub met : (least ≡ n / 2) ⊎ Near s least

  halves : (n / 2 + n / 2 ≤ n) × (n ≤ n / 2 + n / 2 + 1)
  halves =
      let low : n % 2 < 2 = mod-lt n (omega arith) in
      (omega (arith, div-add-mod n 2), omega (arith, div-add-mod n 2))

  -- no two addresses are further apart than half of the circle, and the first two positions are neighbours
  half_largest : {s : ℕ} → 1 ≤ s → 1 ≤ n / 2 → n / 2 ≤ s → (q : ℕ) → Spreads (circular n) φ n q → q ≤ s
  half_largest {s} low some h q spreads =
      let (below, above) = halves in
      by_cases (dec_lt 1 q)
      (λ l.
      let far = spreads 0 1 (omega arith) (omega arith) (λ e. omega arith) (omega arith) in
      let half = within (line (φ 0) (φ 1)) in
      omega arith) (λ l. omega arith)
    where
      within : (w : ℕ) → min w (n - w) ≤ n / 2
      within w = let (below, above) = halves in omega arith

  here : {s least r : ℕ} → Searching s least → s < least → (x : ℕ) → x < n → r ≡ gap φ n s x → Near (s + 1) r
  here {s} g h x lx e =
      record { at = x; step = s; within = lx; some = g.low; less = omega arith; short = lt_of_lt_of_le h g.top; met = e }

  more : {s r r' : ℕ} → Near s r → r' ≡ r → Near (s + 1) r'
  more w e = record { at = w.at; step = w.step; within = w.within; some = w.some; less = omega (arith, w.less); short = w.short; met = e ∙ w.met }

  pub search_step : {s least least' : ℕ} → Searching s least → s < least → Least (gap φ n s) n least least' → s < least' → Searching (s + 1) least'
  search_step {s} {least} {least'} g t l h =
      record {
        low = omega arith;
        fits = omega arith;
        top = omega (arith, l.first, g.top);
        far = λ d x p q lx. far d x p q lx (ℕ_discrete d s);
        met = met l.met g.met;
      }
    where
      far : (d x : ℕ) → 0 < d → d < s + 1 → x < n → Dec (d ≡ s) → least' ≤ gap φ n d x
      far d x p q lx (yes e) = subst (λ (m : ℕ). least' ≤ gap φ n m x) (sym e) (l.below x lx)
      far d x p q lx (no e) = omega (arith, l.first, g.far d x p (omega arith) lx)

      met : (least' ≡ least) ⊎ ((x : ℕ) × (x < n) × (least' ≡ gap φ n s x)) → (least ≡ n / 2) ⊎ Near s least → (least' ≡ n / 2) ⊎ Near (s + 1) least'
      met (inr (x, lx, e)) o = inr (here g t x lx e)
      met (inl e) (inl o) = inl (e ∙ o)
      met (inl e) (inr w) = inr (more w e)

  -- two near positions leave no larger spread
  near_largest : {s r : ℕ} → Near (s + 1) r → r ≤ s → (q : ℕ) → Spreads (circular n) φ n q → q ≤ s
  near_largest {s} {r} w h q spreads = by_cases (dec_lt s q) (λ l. absurd (clash l)) (λ l. omega arith)
    where
      clash : s < q → ⊥
      clash l =
          let y = (w.at + w.step) % n in
          let (close, ne) = further_on n w.at w.step w.within w.some w.short in
          let near : circular n w.at y < q = lt_of_le_of_lt close (omega (arith, w.less)) in
          omega (arith, w.met, spreads w.at y w.within (mod-lt (w.at + w.step) (omega (arith, w.within))) ne near)

  pub search_spreads : {s least : ℕ} → Searching s least → Spreads (circular n) φ n s
  search_spreads {s} g x y lx ly ne near =
      ⊎_elim (λ c. onward x y (circular n x y) lx ly (circular_some n x y lx ly ne) near c)
      (λ c. subst (λ (m : ℕ). s ≤ m) (circular_swap n (φ y) (φ x)) (onward y x (circular n x y) ly lx (circular_some n x y lx ly ne) near c)) (ahead n x y lx ly)
    where
      onward : (x y d : ℕ) → x < n → y < n → 0 < d → d < s → Cong n y (x + d) → s ≤ circular n (φ x) (φ y)
      onward x y d lx ly some near c =
          let e : (x + d) % n ≡ y = cong_small (cong_sym (cong_mod n (x + d)) ⨾ cong_sym c) (mod-lt (x + d) (omega arith)) ly in
          subst (λ (j : ℕ). s ≤ circular n (φ x) (φ j)) e (le_trans g.fits (g.far d x some near lx))

  found : {s least : ℕ} → Searching s least → ((q : ℕ) → q ≤ n → Spreads (circular n) φ n q → q ≤ s) → Spread φ n s
  found g largest = record { low = g.low; high = omega (arith, g.fits, g.top); spreads = search_spreads g; largest = largest }

  -- two positions s apart have addresses at most s apart
  pub search_near : {s least least' : ℕ} → Searching s least → s < least → Least (gap φ n s) n least least' → least' ≤ s → Spread φ n s
  search_near {s} {least} {least'} g t l h = found g (λ q _. largest l.met q)
    where
      largest : (least' ≡ least) ⊎ ((x : ℕ) × (x < n) × (least' ≡ gap φ n s x)) → (q : ℕ) → Spreads (circular n) φ n q → q ≤ s
      largest (inl e) = absurd (omega arith)
      largest (inr (x, lx, e)) = near_largest (here g t x lx e) h

  -- the least distance so far is met
  pub search_met : {s least : ℕ} → Searching s least → least ≤ s → Spread φ n s
  search_met {s} {least} g h = found g (largest g.met)
    where
      largest : (least ≡ n / 2) ⊎ Near s least → (q : ℕ) → q ≤ n → Spreads (circular n) φ n q → q ≤ s
      largest (inl e) q _ spreads = half_largest g.low (omega (arith, g.low, g.fits)) (omega arith) q spreads
      largest (inr w) q _ spreads = near_largest (more w refl) h q spreads
