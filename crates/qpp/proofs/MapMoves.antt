-- The map of a shuffle: a mover may take it, and what it moves is what the promise says.
use mathlib.Core.Path.{◌≡◌, sym, subst, ◌∙◌}
use mathlib.Core.List.{List}
use Prim.Native.Nat.{ℕ, ◌+◌, ◌*◌, ◌≤◌, ◌<◌}
use native.Mathlib.Nat.{mod-lt}
use native.Mathlib.Omega.{arith}
use lib.ListN.{length}
use Rattle.permuting.specs.Permutations.{Permutation}
use Rattle.permuting.specs.Blocks.{Direction, marks_of, MovedBlock}
use Rattle.permuting.proofs.Blocks.{moved_as}
use Rattle.triples.specs.declared.Triple.{Triple}
use Rattle.triples.specs.Shuffles.{f, quadratic, Shuffle}
use Rattle.maps.specs.declared.Map.{Map}
use Rattle.maps.specs.Maps.{to, MapOf}
use Rattle.moving.specs.Readiness.{Ready}
use Rattle.refusals.specs.Refusals.{Test, shuffle_tests, block_tests}
use Rattle.refusals.specs.Leads.{Leads}
use Rattle.refusals.proofs.Tests.{splits}
use Rattle.refusals.proofs.Answers.{answering}
use Rattle.refusals.proofs.Acceptance.{accepted_then}
use Rattle.refusals.proofs.Lengths.{sizes_fit}
use Rattle.qpp.specs.Promises.{Moves}

-- f stays among the positions
pub inside : (t : Triple) (i : ℕ) → i < t.k → f t i < t.k
inside t i h = mod-lt (t.f1 * i + t.f2 * (i * i)) (omega arith)

abbrev Movable : Triple → ℕ → ℕ → ℕ → Type 0
Movable t block scratch number = Leads (shuffle_tests (quadratic t)) (block_tests t.k (marks_of t.k) block scratch) number

pub movable_shuffle : {t : Triple} {block scratch n : ℕ} → Movable t block scratch n → n ≡ 0 → Shuffle t
movable_shuffle {t} {block} {scratch} l z = accepted_then (block_tests t.k (marks_of t.k) block scratch) l.first z

module _ {t : Triple} {m : Map} (map : MapOf t m) where
  permutation : Shuffle t → Permutation m.k (to m)
  permutation s =
      record {
        within = λ i h. omega (arith, map.places i h, inside t i (omega (arith, map.size)), map.size);
        apart = λ i j hi hj e. s.permutes i j (omega (arith, map.size)) (omega (arith, map.size)) (sym (map.places i hi) ∙ e ∙ map.places j hj);
      }

  -- no test refuses: all that a mover asks
  pub ready : {block scratch n : ℕ} → Movable t block scratch n → n ≡ 0 → Ready m block scratch
  ready {block} {scratch} l z =
      record {
        sound = map.sound;
        permutes = permutation (movable_shuffle l z);
        block_size = fits.0 ∙ sym map.size;
        scratch_size = omega (arith, fits.1, map.size);
      }
    where
      own : List Test
      own = block_tests t.k (marks_of t.k) block scratch

      fits : (block ≡ t.k) × (marks_of t.k ≤ scratch)
      fits = sizes_fit t.k (marks_of t.k) block scratch (splits (shuffle_tests (quadratic t)) own tt l.first z) z

  -- what the mover did with it is what was promised
  pub moved : {w : Direction} {A : Type 0} {d : A} {a b : List A} {s s₁ : List ℕ} {n : ℕ}
      → Movable t (length a) (length s) n → n ≡ 0 → MovedBlock w m.k (to m) d a b s s₁ → Moves w (quadratic t) d a s 0 b s₁
  moved {w} {A} {d} {a} {b} {s} {s₁} l z done =
      answering l.first z
      (subst (λ (k : ℕ). MovedBlock w k (f t) d a b s s₁) map.size (moved_as map.places (ready l z).block_size done))
