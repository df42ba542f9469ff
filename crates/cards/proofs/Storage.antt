-- A line of which only the first bytes are kept has the same card.
use mathlib.Core.Path.{◌≡◌, ap, subst, ◌∙◌}
use mathlib.Core.List.{List}
use Prim.Native.Nat.{ℕ, ◌≤◌, ◌<◌}
use native.Mathlib.Decide.{dec_lt}
use native.Mathlib.Omega.{arith}
use lib.ListN.{length, take, length-take}
use lib.Seq.{take_all, length-take-le}
use Rattle.cards.specs.declared.lines.Line.{Line}
use Rattle.cards.specs.Texts.{Wrote}
use Rattle.cards.specs.Cards.{CardOf, unreadable, readable}
use Rattle.cards.specs.Output.{kept, Holding}
use Rattle.cards.proofs.Buffers.{wrote_as}
use Rattle.cards.proofs.Grammar.{reads_short}

-- a readable line is shorter than what is kept: a line as long is unreadable, and so is its front
front_card : (seen text : List ℕ) → CardOf (take kept seen) text → CardOf seen text
front_card seen text = pick (dec_lt (length seen) kept)
  where
    pick : Dec (length seen < kept) → CardOf (take kept seen) text → CardOf seen text
    pick (yes h) c = subst (λ (l : List ℕ). CardOf l text) (take_all kept seen (omega arith)) c
    pick (no h) (unreadable none e) = unreadable (λ t r. omega (arith, reads_short r)) e
    pick (no h) (readable t r c) = absurd (omega (arith, reads_short r, length-take-le kept seen (omega arith)))

-- ---- as the code holds it

pub holding_card : {seen : List ℕ} {line : Line} {n : ℕ} {before after : List ℕ} {at end : ℕ} → Holding seen line
    → (line.size ≤ kept → n ≡ line.size)
    → Wrote (CardOf (take n line.bytes)) before at after end → Wrote (CardOf seen) before at after end
holding_card {seen} {line} {n} h e w =
    let front : take n line.bytes ≡ take kept seen =
    ap (λ (m : ℕ). take m line.bytes) (e (omega (arith, h.size, length-take kept seen))) ∙ h.held in
    wrote_as (λ text c. front_card seen text (subst (λ (l : List ℕ). CardOf l text) front c)) w
