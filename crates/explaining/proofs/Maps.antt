-- The map of a triple that is no shuffle can be searched, and the collision that is found is the triple's.
use mathlib.Core.Path.{sym, ap, ◌∙◌}
use mathlib.Core.Bool.{false}
use mathlib.Core.List.{List, [], append-nil}
use Prim.Native.Nat.{ℕ, ◌*◌, ◌≤◌}
use native.Mathlib.Omega.{arith}
use lib.ListN.{get_or, replicate, length-replicate}
use Rattle.permuting.specs.Formulas.{Permutes}
use Rattle.permuting.proofs.Formulas.{permutes_as}
use Rattle.permuting.specs.Bitmap.{marks}
use Rattle.permuting.proofs.Bitmap.{none_marked}
use Rattle.triples.specs.declared.Triple.{Triple}
use Rattle.triples.specs.Shuffles.{quadratic}
use Rattle.maps.specs.declared.Map.{Map}
use Rattle.maps.specs.Maps.{MapOf}
use Rattle.explaining.specs.Searches.{along, Unmarked, Searchable}

-- zero bytes hold no mark
pub zeros_unmarked : (k n : ℕ) → k ≤ n * 8 → Unmarked k (replicate n 0)
zeros_unmarked k n fits =
    record {
      room = simp length-replicate (omega arith);
      none = λ a. ap (λ (s : List ℕ). get_or (marks k s) a false) (sym (append-nil (replicate n 0))) ∙ none_marked k n [] fits a;
    }

module _ {t : Triple} {m : Map} (of : MapOf t m) where
  pub searchable : ¬ Permutes (quadratic t) → Searchable m (replicate 1024 0)
  searchable not =
      record {
        sound = of.sound;
        collides = λ permutes. not (permutes_as (along m) (quadratic t) of.size of.places permutes);
        bytes = zeros_unmarked m.k 1024 (omega (arith, of.sound.few));
      }
