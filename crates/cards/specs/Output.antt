-- To be believed: the output for an input, which arrives in pieces of any size.
use Rattle.std.specs.Prelude.{◌≡◌, ◌≢◌, ◌⊎◌, List, [], ◌∷◌, ◌++◌, ℕ, ◌+◌, ◌≤◌, length, take}
use Rattle.cards.specs.declared.lines.Line.{Line}
use Rattle.cards.specs.declared.streaming.Fed.{Fed}
use Rattle.cards.specs.Texts.{newline, Wrote}
use Rattle.cards.specs.Cards.{room, unreadable_card, CardOf}

-- What is printed for a last line without its newline: nothing where there is no such line.
abbrev pub ending : List ℕ → List ℕ
ending [] = []
ending (byte ∷ more) = unreadable_card

-- What is printed for the rest of an input, where the bytes `seen` of a line came before it: a card at each newline.
abbrev pub Output : List ℕ → List ℕ → List ℕ → Type 0
Output seen [] out = out ≡ ending seen
Output seen (byte ∷ more) out =
    ((byte ≡ newline) × (card : List ℕ) × (rest : List ℕ) × CardOf seen card × Output [] more rest × (out ≡ card ++ rest))
    ⊎ ((byte ≢ newline) × Output (seen ++ (byte ∷ [])) more out)

-- ---- the line that has not ended

-- How many bytes of a line are kept: one more than a readable line has.
abbrev pub kept : ℕ
kept = 18

-- Of the bytes seen so far, the first are held: all of them if there are no more than are kept.
pub record Holding (seen : List ℕ) (line : Line) : Type 0 where
  pub size : line.size ≡ length (take kept seen)
  pub held : take line.size line.bytes ≡ take kept seen

-- Where the line holds bytes that were seen, the text was written that is such for them. One made by hand may hold none; what is
-- written then lies within the buffer all the same.
pub record WroteFor (Such : List ℕ → List ℕ → Type 0) (line : Line) (before : List ℕ) (at : ℕ) (after : List ℕ) (end : ℕ) : Type 0 where
  pub wrote : (seen : List ℕ) → Holding seen line → Wrote (Such seen) before at after end
  pub fits : end ≤ length before

-- ---- a piece of the input

-- A piece of the input leaves the bytes `rest` of a line that has not ended, and its output begins with the text.
abbrev pub Goes : List ℕ → List ℕ → List ℕ → List ℕ → Type 0
Goes seen piece rest text = (more out : List ℕ) → Output rest more out → Output seen (piece ++ more) (text ++ out)

-- The text is that of a piece after the bytes `seen` of a line, and the line holds what the piece leaves of one.
pub record Prints (piece : List ℕ) (line : Line) (seen text : List ℕ) : Type 0 where
  pub rest : List ℕ
  pub holds : Holding rest line
  pub goes : Goes seen piece rest text

-- So much of a piece was taken; something of it, if there was something and room for a card.
pub record FedBy (piece : List ℕ) (unended : Line) (before : List ℕ) (at : ℕ) (r : Fed) (after : List ℕ) : Type 0 where
  pub took : WroteFor (Prints (take r.taken piece) r.line) unended before at after r.end
  pub within : r.taken ≤ length piece
  pub moves : at + room ≤ length before → 1 ≤ length piece → 1 ≤ r.taken
