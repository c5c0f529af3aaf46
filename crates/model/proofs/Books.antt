-- Two books kept side by side are one book of pairs, which holds what each of them holds alone. So a relation between a model and
-- two books is kept as one with a book is.
use mathlib.Core.Path.{◌≡◌, refl, ap, ◌∙◌}
use mathlib.Core.Bool.{Bool, true, false, cond}
use mathlib.Core.List.{List, [], ◌∷◌}
use Prim.Native.Nat.{ℕ}
use Rattle.model.specs.Spi.{command_register, command_writes}
use Rattle.model.specs.Call.{Call, transfer, event, Answer, refused, answered, Entry}
use Rattle.model.specs.Book.{Book, note_burst, note_transfer, note, book_of}

abbrev pub both : {A B : Type 0} → Book A → Book B → Book (A × B)
both p q = record {
  write = λ n l b. (p.write n l.0 b, q.write n l.1 b);
  step = p.step;
  event = λ n l e vs a. (p.event n l.0 e vs a, q.event n l.1 e vs a);
}

-- where both step alike
module _ {A B : Type 0} (p : Book A) (q : Book B) (alike : (n : ℕ) → p.step n ≡ q.step n) where
  burst_both : (bs : List ℕ) (n : ℕ) (l : A × B) → note_burst (both p q) l n bs ≡ (note_burst p l.0 n bs, note_burst q l.1 n bs)
  unfolding note_burst
  burst_both [] n l = refl
  burst_both (b ∷ bs) n l =
      burst_both bs (p.step n) (p.write n l.0 b, q.write n l.1 b)
      ∙ ap (λ (k : ℕ). (note_burst p (p.write n l.0 b) (p.step n) bs, note_burst q (q.write n l.1 b) k bs)) (alike n)

  choice_both : (t : Bool) (bs : List ℕ) (n : ℕ) (l : A × B)
      → cond t (note_burst (both p q) l n bs) l ≡ (cond t (note_burst p l.0 n bs) l.0, cond t (note_burst q l.1 n bs) l.1)
  choice_both true bs n l = burst_both bs n l
  choice_both false bs n l = refl

  transfer_both : (bs : List ℕ) (l : A × B) → note_transfer (both p q) l bs ≡ (note_transfer p l.0 bs, note_transfer q l.1 bs)
  transfer_both [] l = refl
  transfer_both (m ∷ bs) l = choice_both (command_writes m) bs (command_register m) l

  note_both : (k : Call) (a : Answer) (l : A × B) → note (both p q) l k a ≡ (note p l.0 k a, note q l.1 k a)
  unfolding note
  note_both k (refused r) l = refl
  note_both (transfer bytes room) (answered a) l = transfer_both bytes l
  note_both (event e payload room) (answered a) l = refl

  pub book_both : (es : List Entry) (l : A × B) → book_of (both p q) l es ≡ (book_of p l.0 es, book_of q l.1 es)
  unfolding book_of
  book_both [] l = refl
  book_both (e ∷ es) l =
      ap (λ (k : A × B). book_of (both p q) k es) (note_both e.call e.answer l)
      ∙ book_both es (note p l.0 e.call e.answer, note q l.1 e.call e.answer)
