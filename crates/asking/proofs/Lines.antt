-- Which word a line begins with: from the first byte that is no space to the next space.
use mathlib.Core.Path.{◌≡◌, sym, ap, ◌∙◌}
use mathlib.Core.Logic.{◌≢◌}
use mathlib.Core.List.{List, ◌++◌}
use Prim.Native.Nat.{ℕ, ◌+◌, ◌≤◌, ◌<◌}
use native.Mathlib.Decide.{ℕ_discrete}
use native.Mathlib.Omega.{arith}
use lib.ListN.{length, get_or, take, drop, length-drop}
use lib.Seq.{length-take-le}
use Rattle.std.proofs.lemmas.List.{take-append-drop, get_or-take, get_or-drop}
use Rattle.std.proofs.lemmas.List.Elements.{All-from_get_or}
use Rattle.asking.specs.Words.{BeginsWith}

module _ (line : List ℕ) (start size : ℕ) where
  pub begins : start < length line → get_or line start 0 ≢ 32 → ((k : ℕ) → k < start → get_or line k 0 ≡ 32) → size ≤ length (drop start line)
      → ((j : ℕ) → j < size → get_or (drop start line) j 0 ≢ 32) → (size < length (drop start line) → get_or (drop start line) size 0 ≡ 32)
      → BeginsWith line (take size (drop start line)) (drop size (drop start line))
  begins inside other spaces within solid closed =
      record {
        spaces = take start line;
        gap = All-from_get_or (λ byte. byte ≡ 32) (take start line) 0 (λ i h. let below = at_front i h in get_or-take start line i 0 below ∙ spaces i below);
        some = nonempty (ℕ_discrete size 0);
        solid = All-from_get_or (λ byte. byte ≢ 32) (take size (drop start line)) 0
            (λ i h e. let below : i < size = omega (arith, h, whole) in solid i below (sym (get_or-take size (drop start line) i 0 below) ∙ e));
        parts = sym (take-append-drop start line) ∙ ap (λ (l : List ℕ). take start line ++ l) (sym (take-append-drop size (drop start line)));
        ends = λ h. get_or-drop size (drop start line) 0 0 ∙ ap (λ (n : ℕ). get_or (drop start line) n 0) {x = size + 0} {y = size} (omega arith) ∙ closed (omega (arith, h, length-drop size (drop start line)));
      }
    where
      whole : length (take size (drop start line)) ≡ size
      whole = length-take-le size (drop start line) within

      front : length (take start line) ≡ start
      front = length-take-le start line (omega arith)

      at_front : (i : ℕ) → i < length (take start line) → i < start
      at_front i h = omega (arith, h, front)

      left : length (drop start line) ≢ 0
      left z = omega (arith, z, length-drop start line, inside)

      nonempty : Dec (size ≡ 0) → 0 < length (take size (drop start line))
      nonempty (no ne) = omega (arith, ne, whole)
      nonempty (yes z) =
          absurd (other (sym (get_or-drop start line 0 0 ∙ ap (λ (n : ℕ). get_or line n 0) {x = start + 0} {y = start} (omega arith)) ∙ (ap (λ (n : ℕ). get_or (drop start line) n 0) (sym z) ∙ closed (omega (arith, z, left)))))

-- of parts that are known by what they equal
pub begins_as : {line begun word rest : List ℕ} {start size : ℕ} → begun ≡ drop start line → word ≡ take size begun → rest ≡ drop size begun
    → (start < length line) × (get_or line start 0 ≢ 32) × ((k : ℕ) → k < start → get_or line k 0 ≡ 32) → size ≤ length begun
    → ((j : ℕ) → 0 ≤ j → j < size → get_or begun j 0 ≢ 32) → (size < length begun → get_or begun size 0 ≡ 32) → BeginsWith line word rest
begins_as {line} {start = start} {size = size} e w r (inside, other, spaces) within solid closed =
    rw (w, r, e) (begins line start size inside other spaces (rw e at within) (λ j h. rw e at (solid j (omega arith) h)) (rw e at closed))
