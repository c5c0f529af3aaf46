-- A book of any kind, kept beside a model: it gets each call with its answer and never sees a state, so its type shows that what
-- it holds is read off the calls alone.
use Rattle.std.specs.Prelude.{cond, List, [], ◌∷◌, ℕ}
use Rattle.model.specs.declared.Event.{Event}
use Rattle.model.specs.Reply.{Reply}
use Rattle.model.specs.Spi.{command_register, command_writes}
use Rattle.model.specs.Call.{Call, transfer, event, Answer, refused, answered, Entry}

-- how it reads a call: a byte written to register n, the register step, the event of code n with its payload and its reply
pub record Book (B : Type 0) : Type 0 where
  pub write : ℕ → B → ℕ → B
  pub step : ℕ → ℕ
  pub event : ℕ → B → Event → List ℕ → Reply → B

module _ {B : Type 0} (q : Book B) where
  unfoldable pub note_burst : B → ℕ → List ℕ → B
  note_burst l n [] = l
  note_burst l n (b ∷ bs) = note_burst (q.write n l b) (q.step n) bs

  -- a read writes nothing
  abbrev pub note_transfer : B → List ℕ → B
  note_transfer l [] = l
  note_transfer l (m ∷ bs) = cond (command_writes m) (note_burst l (command_register m) bs) l

  abbrev pub note_accepted : B → Call → Reply → B
  note_accepted l (transfer bytes room) a = note_transfer l bytes
  note_accepted l (event e payload room) a = q.event e.code l e payload a

  -- a refused call leaves the book alone
  unfoldable pub note : B → Call → Answer → B
  note l k (refused r) = l
  note l k (answered a) = note_accepted l k a

  unfoldable pub book_of : B → List Entry → B
  book_of l [] = l
  book_of l (e ∷ es) = book_of (note l e.call e.answer) es
