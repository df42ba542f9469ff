-- What a coder does, from its polynomials alone.
use mathlib.Core.Path.{◌≡◌, refl, sym, ap, ap₂, ◌∙◌, subst}
use mathlib.Core.Logic.{by_cases}
use mathlib.Core.List.{List, [], ◌∷◌}
use Prim.Native.Nat.{ℕ, zero, suc, ◌+◌, ◌*◌, ◌%◌, ◌≤◌, ◌<◌}
use native.Mathlib.Decide.{ℕ_discrete, dec_lt}
use native.Mathlib.Omega.{arith}
use Rattle.coding.specs.Coders.{feedback, output, delayed, picked, earlier, fed_back, Coding}

-- ---- a polynomial picks from no later bit

delayed_same : (b c : ℕ → ℕ) (n : ℕ) → ((m : ℕ) → m < n → b m ≡ c m) → (m : ℕ) → m ≤ n → delayed b m ≡ delayed c m
delayed_same b c n same zero l = refl
delayed_same b c n same (suc m) l = same m (omega arith)

picked_same : (p : List ℕ) (b c : ℕ → ℕ) (n : ℕ) → ((m : ℕ) → m ≤ n → b m ≡ c m) → picked p b n ≡ picked p c n
picked_same [] b c n same = refl
picked_same (a ∷ more) b c n same =
    ap₂ (λ (u v : ℕ). a * u + v) (same n (omega arith))
    (picked_same more (delayed b) (delayed c) n (delayed_same b c n (λ m l. same m (omega arith))))

earlier_same : (p : List ℕ) (b c : ℕ → ℕ) (n : ℕ) → ((m : ℕ) → m < n → b m ≡ c m) → picked (earlier p) b n ≡ picked (earlier p) c n
earlier_same [] b c n same = refl
earlier_same (a ∷ more) b c n same = let rest = picked_same more (delayed b) (delayed c) n (delayed_same b c n same) in omega (arith, rest)

fed_back_same : (b c : ℕ → ℕ) (n : ℕ) → ((m : ℕ) → m < n → b m ≡ c m) → fed_back b n ≡ fed_back c n
fed_back_same b c n same = ap (λ (u : ℕ). u % 2) (earlier_same feedback b c n same)

-- ---- one coding fits

module _ {k : ℕ} {block other : ℕ → ℕ} (alike : (n : ℕ) → n < k → block n ≡ other n) (c : Coding k block) (d : Coding k other) where
  x_then : (n : ℕ) → ((m : ℕ) → m < n → c.w m ≡ d.w m) → c.x n ≡ d.x n
  x_then n same =
      by_cases (dec_lt n k) (λ h. c.inside n h ∙ alike n h ∙ sym (d.inside n h))
      (λ h. c.after n (omega arith) ∙ fed_back_same c.w d.w n same ∙ sym (d.after n (omega arith)))

  before : (n m : ℕ) → m < n → c.w m ≡ d.w m
  before zero m l = absurd (omega arith)
  before (suc n) m l =
      by_cases (ℕ_discrete m n)
      (λ e. subst (λ (i : ℕ). c.w i ≡ d.w i) (sym e)
      (c.enters n ∙ ap₂ (λ (a b : ℕ). (a + b) % 2) (x_then n (before n)) (fed_back_same c.w d.w n (before n)) ∙ sym (d.enters n)))
      (λ ne. before n m (omega arith))

  pub same_x : (n : ℕ) → c.x n ≡ d.x n
  same_x n = x_then n (before n)

  pub same_z : (n : ℕ) → c.z n ≡ d.z n
  same_z n =
      c.given n ∙ ap (λ (u : ℕ). u % 2) (picked_same output c.w d.w n (λ m l. before (suc n) m (omega arith))) ∙ sym (d.given n)

-- ---- the polynomials, and the end

module _ {k : ℕ} {block : ℕ → ℕ} (c : Coding k block) where
  -- from what enters, the feedback polynomial picks what is coded
  pub feedback_picks : (n : ℕ) → c.x n < 2 → picked feedback c.w n % 2 ≡ c.x n
  feedback_picks n bit = omega (arith, c.enters n)

  -- after the block zeros enter
  pub zeros_enter : (n : ℕ) → k ≤ n → c.w n ≡ 0
  zeros_enter n h = omega (arith, c.enters n, c.after n h)
