-- No second answer fits: one law for each call.
use mathlib.Core.Path.{◌≡◌, refl, sym, ap, ◌∙◌}
use mathlib.Core.List.{List}
use Prim.Native.Nat.{ℕ}
use Rattle.triples.specs.declared.Triple.{Triple}
use Rattle.triples.specs.Shuffles.{triple, f}
use Rattle.refusals.proofs.Answers.{answer_one}
use Rattle.standard.specs.Rows.{Row}
use Rattle.standard.proofs.Rows.{row_one}
use Rattle.coding.specs.Streams.{shuffled}
use Rattle.coding.proofs.Streams.{streams_one}
use Rattle.std.specs.Prelude.{Result, Ok, Err, IfOk}
use Rattle.triples.specs.declared.Triple.{Triple}
use Rattle.refusals.specs.declared.refusal.Refusal.{Refusal}
use Rattle.refusals.proofs.Numbers.{never_zero, number_of_one}
use Rattle.turbo.specs.Answers.{shown_row}
use Rattle.turbo.specs.Promises.{RowOf, Encoded, Encodes}
use Rattle.turbo.specs.declared.lengths.Row as declared

pub row_of_one : {k : ℕ} {r s : declared.Row} → RowOf k r → RowOf k s → r ≡ s
row_of_one {k} {r} {s} a b =
    let e = answer_one done (λ p q. (p.0 ∙ sym q.0, p.1 ∙ sym q.1)) a b in λ i. record { number = e.0 i; f1 = e.1.0 i; f2 = e.1.1 i }
  where
    done : Row (triple k r.f1 r.f2) → Row (triple k s.f1 s.f2) → (r.f1 ≡ s.f1) × (r.f2 ≡ s.f2)
    done p q = let e = row_one p q refl in (ap (λ (t : Triple). t.f1) e, ap (λ (t : Triple). t.f2) e)

module _ {k : ℕ} {input before0 before1 before2 d0 d1 d2 e0 e1 e2 : List ℕ} where
  encoded_one : Encoded k input before0 before1 before2 d0 d1 d2 → Encoded k input before0 before1 before2 e0 e1 e2 → (d0 ≡ e0) × (d1 ≡ e1) × (d2 ≡ e2)
  encoded_one a b =
      let e : a.row ≡ b.row = row_one a.listed b.listed (a.length_is ∙ sym b.length_is) in
      streams_one (λ i _. refl) (λ i _. ap (λ (t : Triple). shuffled (f t) input i) e) a.streams b.streams

  pub encodes_one : {n m : ℕ} → Encodes k input before0 before1 before2 n d0 d1 d2 → Encodes k input before0 before1 before2 m e0 e1 e2
      → (n ≡ m) × (d0 ≡ e0) × (d1 ≡ e1) × (d2 ≡ e2)
  encodes_one a b =
      let e = answer_one encoded_one (λ p q. (p.0 ∙ sym q.0, p.1 ∙ sym q.1, p.2 ∙ sym q.2)) a b in (e.0, e.1.0, e.1.1, e.1.2)

-- what is shown of a row tells the answer, since its length is that of the call
pub row_answer_one : {k : ℕ} (r s : Result Triple Refusal) → RowOf k (shown_row r) → RowOf k (shown_row s) → IfOk r (λ t. t.k ≡ k) → IfOk s (λ t. t.k ≡ k)
    → r ≡ s
row_answer_one (Ok t) (Ok u) a b p q = let e = row_of_one a b in ap Ok (λ i. record { k = (p ∙ sym q) i; f1 = (e i).f1; f2 = (e i).f2 })
row_answer_one (Ok t) (Err x) a b p q = absurd (never_zero x (sym (ap (λ (r : declared.Row). r.number) (row_of_one a b))))
row_answer_one (Err x) (Ok t) a b p q = absurd (never_zero x (ap (λ (r : declared.Row). r.number) (row_of_one a b)))
row_answer_one (Err x) (Err y) a b p q = ap Err (number_of_one (ap (λ (r : declared.Row). r.number) (row_of_one a b)))
