-- Laws of `tab`: its length, its elements, and a list as the `tab` of its elements.
use mathlib.Core.Path.{◌≡◌, refl, sym, ap, ◌∙◌}
use mathlib.Core.List.{List}
use Prim.Native.Nat.{ℕ, zero, suc, ◌<◌}
use native.Mathlib.Nat.{le_of_suc-le-suc, not-suc-le-zero}
use lib.ListN.{length, get_or}
use lib.Seq.{ext_get_or}
use Rattle.permuting.specs.Tabulation.{tab}

module _ {A : Type 0} where
  pub length_tab : (f : ℕ → A) (n : ℕ) → length (tab f n) ≡ n
  unfolding tab
  length_tab f zero = refl
  length_tab f (suc n) = ap suc (length_tab (λ i. f (suc i)) n)

  pub get_or_tab : (f : ℕ → A) (n i : ℕ) (d : A) → i < n → get_or (tab f n) i d ≡ f i
  unfolding tab
  get_or_tab f zero i d h = absurd (not-suc-le-zero h)
  get_or_tab f (suc n) zero d h = refl
  get_or_tab f (suc n) (suc i) d h = get_or_tab (λ i. f (suc i)) n i d (le_of_suc-le-suc h)

  -- a list is the tab of any rule that gives its elements
  pub is_tab : (d : A) (l : List A) (f : ℕ → A) (n : ℕ) → length l ≡ n → ((i : ℕ) → i < n → get_or l i d ≡ f i) → l ≡ tab f n
  is_tab d l f n e h =
      ext_get_or d l (tab f n) (e ∙ sym (length_tab f n)) (λ i b. let b' : i < n = rw e at b in h i b' ∙ sym (get_or_tab f n i d b'))
