-- What number 0 says of a position and of the lengths of what was lent.
use mathlib.Core.Path.{◌≡◌, refl}
use mathlib.Core.Logic.{inl, inr, by_cases}
use mathlib.Core.List.{[], ◌∷◌}
use Prim.Native.Nat.{ℕ, ◌≤◌, ◌<◌}
use native.Mathlib.Decide.{ℕ_discrete, dec_lt}
use native.Mathlib.Omega.{arith}
use Rattle.refusals.specs.Refusals.{First, no_position, no_block, no_list, block_tests}
use Rattle.refusals.proofs.Tests.{none}

-- x is one of k positions
pub placed : {k x n : ℕ} → First (no_position k x ∷ []) n → n ≡ 0 → x < k
placed {k} {x} first z = by_cases (dec_lt x k) (λ h. h) (λ h. absurd ((none (no_position k x ∷ []) tt first z).0 (omega arith)))

-- a block has k symbols
pub fits : {k size : ℕ} → ¬ (no_block k size).applies → size ≡ k
fits {k} {size} not = by_cases (ℕ_discrete size k) (λ e. e) (λ ne. absurd (not ne))

-- a list has the entries that are needed
pub long : {Needed : ℕ → Type 0} (needed size : ℕ) → Needed needed → ¬ (no_list Needed size).applies → needed ≤ size
long needed size is not = by_cases (dec_lt size needed) (λ h. absurd (not (needed, is, h))) (λ h. omega arith)

pub none_short : {Needed : ℕ → Type 0} (needed size : ℕ) {n : ℕ} → Needed needed → First (no_list Needed size ∷ []) n → n ≡ 0 → needed ≤ size
none_short {Needed} needed size is first z = long needed size is (none (no_list Needed size ∷ []) tt first z).0

-- and is long enough where as many entries are needed as it was tested for
pub needed_entries : {Needed : ℕ → Type 0} (needed size : ℕ) {n : ℕ} → Needed needed → ((m : ℕ) → Needed m → m ≡ needed)
    → First (no_list (λ m. m ≡ needed) size ∷ []) n → First (no_list Needed size ∷ []) n
needed_entries needed size is one (inl (e, (m, same, short))) = inl (e, (needed, is, omega arith))
needed_entries needed size is one (inr (not, z)) = inr ((λ h. not (needed, refl, omega (arith, h.2, one h.0 h.1))), z)

-- a block has k symbols, and a scratch the bytes
pub sizes_fit : (k bytes block scratch : ℕ) {n : ℕ} → First (block_tests k bytes block scratch) n → n ≡ 0 → (block ≡ k) × (bytes ≤ scratch)
sizes_fit k bytes block scratch first z =
    let h = none (block_tests k bytes block scratch) tt first z in
    (fits h.0, by_cases (dec_lt scratch bytes) (λ l. absurd (h.1.0 l)) (λ l. omega arith))
