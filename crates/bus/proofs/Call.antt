-- The public call is a call to the MAX3420E as a model: the record that it hands back and its reply are the model's. And the numbers
-- of its reply are those of the model's answer.
use Rattle.std.specs.Prelude.{Ok, Err}
use mathlib.Core.Path.{◌≡◌, refl}
use mathlib.Core.Bool.{true, false}
use mathlib.Core.List.{List}
use Prim.Native.Nat.{ℕ}
use lib.ListN.{length}
use Rattle.refusal.specs.declared.Refusal.{Refusal}
use Rattle.refusal.specs.Check.{Checked, tells}
use Rattle.chip.specs.declared.Chip.{Chip}
use Rattle.model.specs.declared.Event.{Event}
use Rattle.model.specs.Reply.{transferred, done, silence, ack, nak, stall, sent}
use Rattle.model.specs.Call.{Call, event, Answer, refused, answered, call_to, answer_of}
use Rattle.model.specs.Call.{checked, checked_answer}
use Rattle.rules.specs.Event.{max3420e}
use Rattle.event_answer.specs.Answer.{EventAnswer, event_answer_with, outcome_answer, outcome_buffer}
use Rattle.bus.specs.EventCall.{event_outcome, event_reply_of, call_answer, event_answer, event_buffer}
use Rattle.bus.specs.EventCall.{event_pid, event_count, answer_pid, answer_count}

pub event_call : (c : Chip) (e : Event) (vs : List ℕ) (room : ℕ)
    → ((event_answer c e vs room).state ≡ call_to max3420e c (event e vs room))
    × ((event_answer c e vs room).reply ≡ event_reply_of (answer_of max3420e c (event e vs room)))
event_call c e vs room = (refl, refl)

-- ---- numbers

checked_refusal : (c : Chip) (k : Call) (v : Checked) → tells (event_reply_of (checked_answer max3420e c k v)) ≡ v
checked_refusal c k (Ok tt) = refl
checked_refusal c k (Err r) = refl

pub refusal_of_law : (c : Chip) (k : Call) → tells (event_reply_of (answer_of max3420e c k)) ≡ checked max3420e c k
unfolding answer_of
refusal_of_law c k = checked_refusal c k (checked max3420e c k)

pub pid_of : (a : Answer) → event_pid (event_reply_of a) ≡ answer_pid a
pid_of (refused r) = refl
pid_of (answered (transferred vs)) = refl
pid_of (answered done) = refl
pid_of (answered silence) = refl
pid_of (answered ack) = refl
pid_of (answered nak) = refl
pid_of (answered stall) = refl
pid_of (answered (sent true vs)) = refl
pid_of (answered (sent false vs)) = refl

pub count_of : (a : Answer) → event_count (event_reply_of a) ≡ answer_count a
count_of (refused r) = refl
count_of (answered (transferred vs)) = refl
count_of (answered done) = refl
count_of (answered silence) = refl
count_of (answered ack) = refl
count_of (answered nak) = refl
count_of (answered stall) = refl
count_of (answered (sent true vs)) = refl
count_of (answered (sent false vs)) = refl

pub numbers : (c : Chip) (k : Call) (r : EventAnswer) → r ≡ call_answer c k
    → (tells r.reply ≡ checked max3420e c k)
    × (event_pid r.reply ≡ answer_pid (answer_of max3420e c k))
    × (event_count r.reply ≡ answer_count (answer_of max3420e c k))
numbers c k r e = rw e (refusal_of_law c k, pid_of (answer_of max3420e c k), count_of (answer_of max3420e c k))

-- ---- a call that is refused, and one that is not

module _ (c : Chip) (e : Event) (vs buffer : List ℕ) where
  pub refused_answer : (r : Refusal) → checked max3420e c (event e vs (length buffer)) ≡ Err r
      → (event_answer_with c (Err r) ≡ event_answer c e vs (length buffer)) × (buffer ≡ event_buffer c e vs buffer)
  unfolding call_to answer_of
  refused_answer r t = rw t (refl, refl)

  pub accepted_answer : checked max3420e c (event e vs (length buffer)) ≡ (Ok tt)
      → (outcome_answer (event_outcome c e vs) ≡ event_answer c e vs (length buffer))
      × (outcome_buffer (event_outcome c e vs) buffer ≡ event_buffer c e vs buffer)
  unfolding call_to answer_of
  accepted_answer t = rw t (refl, refl)
