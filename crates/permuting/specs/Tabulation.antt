-- Serves inside: a list written down by its rule.
use Rattle.std.specs.Prelude.{List, [], ◌∷◌, ℕ, zero, suc}

-- the list of n elements whose element i is f i
unfoldable pub tab : {A : Type 0} → (ℕ → A) → ℕ → List A
tab f zero = []
tab f (suc n) = f zero ∷ tab (λ i. f (suc i)) n
