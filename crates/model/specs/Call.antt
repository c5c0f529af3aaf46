-- A call to a model over any state: when it is refused, its answer, the state after it, the lent buffer after it; and a list of
-- calls with its history (document 01, "Numbers of refusal").
use Rattle.std.specs.Prelude.{Bool, not, ◌&&◌, ◌||◌, List, [], ◌∷◌, ◌++◌, ℕ, eqb, ltb, length, Ok, Err}
use Rattle.refusal.specs.declared.Refusal.{Refusal}
use Rattle.refusal.specs.declared.Refusal.TheVariants.{Unsound, NoCommand, LongTransfer, ShortBuffer, UnknownEvent, OutPayload}
use Rattle.refusal.specs.declared.Refusal.TheVariants.{SetupPayload, BadAddress}
use Rattle.refusal.specs.Check.{check}
use Rattle.refusal.specs.Check.{Checked}
use Rattle.model.specs.declared.Event.{Event}
use Rattle.model.specs.Reply.{Outcome, outcome, Reply, transferred, reply_bytes, lent}
use Rattle.model.specs.Spi.{Spi, transfer_to, transfer_of}

-- a transfer with its bytes, or an event with its payload; each with the number of bytes lent for the reply
pub data Call : Type 0 where
  transfer : (bytes : List ℕ) (room : ℕ) → Call
  event : (e : Event) (payload : List ℕ) (room : ℕ) → Call

-- its answer, without the record: why it is refused, or the reply
pub data Answer : Type 0 where
  refused : Refusal → Answer
  answered : Reply → Answer

-- the lent buffer after a call: refused, as given; else the bytes that the reply counts, the rest as given
abbrev pub buffer_after : Answer → List ℕ → List ℕ
buffer_after (refused r) buffer = buffer
buffer_after (answered a) buffer = lent (reply_bytes a) buffer

-- ---- refusals: grounds in the order of the paper (`grounds_in_order`), of which the first that applies is given

-- 1 a record passed in isn't sound; 2 a transfer has no command byte; 3 a transfer has over 4,096 bytes; 4 the reply buffer is
-- shorter than the transfer
abbrev pub transfer_grounds : Bool → ℕ → ℕ → List (Bool × Refusal)
transfer_grounds sound n room = (not sound, Unsound) ∷ (eqb n 0, NoCommand) ∷ (ltb 4096 n, LongTransfer) ∷ (ltb room n, ShortBuffer) ∷ []

-- SETUP, OUT, IN: codes 10, 11, 12
abbrev pub is_setup : Event → Bool
is_setup e = eqb e.code 10

abbrev pub is_out : Event → Bool
is_out e = eqb e.code 11

abbrev pub is_in : Event → Bool
is_in e = eqb e.code 12

abbrev pub is_transaction : Event → Bool
is_transaction e = is_setup e || is_out e || is_in e

-- 1 a record passed in isn't sound; 4 the reply buffer is under 64 bytes, for an IN event; 5 an event code isn't one of ours; 6 an
-- OUT payload is over 64 bytes; 8 a SETUP payload isn't 8, both with the length found (Ask 1); 7 a transaction's address is over 127
-- or its endpoint over 15
abbrev pub event_grounds : Bool → Event → ℕ → ℕ → List (Bool × Refusal)
event_grounds sound e n room =
    (not sound, Unsound)
    ∷ (is_in e && ltb room 64, ShortBuffer)
    ∷ (eqb e.code 0 || ltb 12 e.code, UnknownEvent)
    ∷ (is_out e && ltb 64 n, OutPayload n)
    ∷ (is_setup e && not (eqb n 8), SetupPayload n)
    ∷ (is_transaction e && (ltb 127 e.address || ltb 15 e.endpoint.0), BadAddress)
    ∷ []

abbrev pub grounds : Bool → Call → List (Bool × Refusal)
grounds sound (transfer bytes room) = transfer_grounds sound (length bytes) room
grounds sound (event e payload room) = event_grounds sound e (length payload) room

-- ---- a model: both sides, the state at power-on, when a state is sound, and grounds of its own beyond the common ones

pub record Model (R : Type 0) : Type 0 where
  pub spi : Spi R
  -- the event of code n, with its payload
  pub bus : ℕ → R → Event → List ℕ → Outcome R Reply
  pub start : R
  pub sound : R → Bool
  pub further : R → Call → List (Bool × Refusal)

module _ {R : Type 0} (m : Model R) where
  -- an accepted call
  abbrev pub accepted_outcome : R → Call → Outcome R Reply
  accepted_outcome c (transfer bytes room) = outcome (transfer_to m.spi c bytes) (transferred (transfer_of m.spi c bytes))
  accepted_outcome c (event e payload room) = m.bus e.code c e payload

  abbrev pub checked : R → Call → Checked
  checked c k = check (grounds (m.sound c) k ++ m.further c k)

  -- a refused call changes nothing
  abbrev pub checked_to : R → Call → Checked → R
  checked_to c k (Ok tt) = (accepted_outcome c k).state
  checked_to c k (Err r) = c

  abbrev pub checked_answer : R → Call → Checked → Answer
  checked_answer c k (Ok tt) = answered (accepted_outcome c k).gives
  checked_answer c k (Err r) = refused r

  -- the state after a call, and its answer
  unfoldable pub call_to : R → Call → R
  call_to c k = checked_to c k (checked c k)

  unfoldable pub answer_of : R → Call → Answer
  answer_of c k = checked_answer c k (checked c k)

  -- ---- a list of calls, each given the state that the one before returned

  unfoldable pub run_to : R → List Call → R
  run_to c [] = c
  run_to c (k ∷ ks) = run_to (call_to c k) ks

-- what was asked and answered; no record
pub record Entry : Type 0 where
  pub call : Call
  pub answer : Answer

module _ {R : Type 0} (m : Model R) where
  unfoldable pub history : R → List Call → List Entry
  history c [] = []
  history c (k ∷ ks) = record { call = k; answer = answer_of m c k } ∷ history (call_to m c k) ks
