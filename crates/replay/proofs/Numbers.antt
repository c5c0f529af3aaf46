-- A call's answer in numbers is the model's answer in numbers; and how many bytes it has.
use Rattle.std.specs.Prelude.{Ok, Err}
use mathlib.Core.Path.{◌≡◌, refl, ap, ◌∙◌}
use mathlib.Core.Bool.{true, false}
use mathlib.Core.List.{List}
use Prim.Native.Nat.{ℕ, ◌+◌, ◌≤◌}
use native.Mathlib.Omega.{arith}
use lib.Dec.{eqb}
use lib.ListN.{length, take, drop}
use lib.Seq.{take-append_seam}
use borrow.Author.Tests.{ltb-false}
use Rattle.bits.proofs.Cases.{cond_elim}
use Rattle.refusal.specs.Check.{Checked}
use Rattle.refusal.specs.Check.{checked_number}
use Rattle.refusal.proofs.Check.{accepted_none}
use Rattle.chip.specs.declared.Chip.{Chip}
use Rattle.chip.specs.Sound.{sound_chip}
use Rattle.model.specs.declared.Event.{Event}
use Rattle.model.specs.Reply.{Reply, transferred, done, silence, ack, nak, stall, sent, reply_bytes}
use Rattle.model.specs.Call.{Call, transfer, event, Answer, refused, answered, buffer_after, transfer_grounds}
use Rattle.model.specs.Call.{checked, checked_answer, call_to, answer_of}
use Rattle.model.proofs.Runs.{transfer_length}
use Rattle.rules.specs.Spi.{max3420e_spi}
use Rattle.rules.specs.Event.{max3420e}
use Rattle.spi.specs.Transfer.{transfer_reply_of, transfer_refusal, transfer_count}
use Rattle.event_answer.specs.Answer.{event_reply}
use Rattle.bus.specs.EventCall.{event_outcome, event_reply_of, event_count, answer_pid}
use Rattle.bus.proofs.Accepted.{accepted_sound}
use Rattle.bus.proofs.Call.{refusal_of_law, pid_of}
use Rattle.bus.proofs.Replies.{Packet, event_packet}
use Rattle.event_body.specs.Body.{event_of, payload_of}
use Rattle.flat.specs.Answer.{flat_transfer, flat_event}
use Rattle.replay.specs.Results.{call_with, answer_refusal, answer_bytes, flat_answer}

-- ---- the numbers

-- refusal, PID and count are those of the answer
pub record Numbered (a : Answer) (r p n : ℕ) : Type 0 where
  pub refusal : r ≡ answer_refusal a
  pub pid : p ≡ answer_pid a
  pub count : n ≡ length (answer_bytes a)

abbrev pub CallNumbered : Chip → Call → Type 0
CallNumbered c k =
    Numbered (answer_of max3420e c k) (flat_answer c k).refusal (flat_answer c k).pid (flat_answer c k).count

transfer_numbered : (c : Chip) (bytes : List ℕ) (room : ℕ) (v : Checked)
    → let a = checked_answer max3420e c (transfer bytes room) v in
    Numbered a (transfer_refusal (transfer_reply_of a)) 0 (transfer_count (transfer_reply_of a))
transfer_numbered c bytes room (Ok tt) = record { refusal = refl; pid = refl; count = refl }
transfer_numbered c bytes room (Err r) = record { refusal = refl; pid = refl; count = refl }

packet_count : (a : Reply) → Packet a → event_count (Ok (event_reply a)) ≡ length (reply_bytes a)
packet_count (transferred vs) h = absurd h
packet_count done h = refl
packet_count silence h = refl
packet_count ack h = refl
packet_count nak h = refl
packet_count stall h = refl
packet_count (sent true vs) h = refl
packet_count (sent false vs) h = refl

-- the number of the check
checked_refusal : (c : Chip) (k : Call) (v : Checked) → checked_number v ≡ answer_refusal (checked_answer max3420e c k v)
checked_refusal c k (Ok tt) = refl
checked_refusal c k (Err r) = refl

event_counted : (c : Chip) (e : Event) (vs : List ℕ) (room : ℕ) (v : Checked) → (v ≡ (Ok tt) → Packet (event_outcome c e vs).gives)
    → event_count (event_reply_of (checked_answer max3420e c (event e vs room) v)) ≡ length (answer_bytes (checked_answer max3420e c (event e vs room) v))
event_counted c e vs room (Ok tt) packet = packet_count (event_outcome c e vs).gives (packet refl)
event_counted c e vs room (Err r) packet = refl

-- an accepted event has a packet's bytes at the most: its record is sound
accepted_packet : (c : Chip) (e : Event) (vs : List ℕ) (room : ℕ) → checked max3420e c (event e vs room) ≡ (Ok tt)
    → Packet (event_outcome c e vs).gives
accepted_packet c e vs room h = event_packet c e vs (accepted_sound (sound_chip c) e (length vs) room h)

pub call_numbered : (c : Chip) (k : Call) → CallNumbered c k
unfolding answer_of flat_transfer flat_event
call_numbered c (transfer bytes room) = transfer_numbered c bytes room (checked max3420e c (transfer bytes room))
call_numbered c (event e vs room) =
    let k = event e vs room in
    record {
      refusal = ap checked_number (refusal_of_law c k) ∙ checked_refusal c k (checked max3420e c k);
      pid = pid_of (answer_of max3420e c k);
      count = event_counted c e vs room (checked max3420e c k) (accepted_packet c e vs room);
    }

pub call_chip : (c : Chip) (k : Call) → (flat_answer c k).chip ≡ call_to max3420e c k
unfolding flat_transfer flat_event
call_chip c (transfer bytes room) = refl
call_chip c (event e vs room) = refl

-- ---- the bytes

-- they are the first of the lent buffer
pub buffer_bytes : (a : Answer) (buffer : List ℕ) → take (length (answer_bytes a)) (buffer_after a buffer) ≡ answer_bytes a
buffer_bytes (refused r) buffer = refl
buffer_bytes (answered a) buffer = take-append_seam (reply_bytes a) (drop (length (reply_bytes a)) buffer)

-- a transfer has as many as it sends, an event a packet's at the most
abbrev most_bytes : Call → ℕ
most_bytes (transfer bytes room) = length bytes
most_bytes (event e vs room) = 64

packet_most : (a : Reply) → Packet a → length (reply_bytes a) ≤ 64
packet_most (transferred vs) h = absurd h
packet_most done h = omega arith
packet_most silence h = omega arith
packet_most ack h = omega arith
packet_most nak h = omega arith
packet_most stall h = omega arith
packet_most (sent data1 vs) h = h

answer_most : (c : Chip) (k : Call) (v : Checked) → checked max3420e c k ≡ v → length (answer_bytes (checked_answer max3420e c k v)) ≤ most_bytes k
answer_most c (transfer bytes room) (Ok tt) h = omega (arith, transfer_length max3420e_spi c bytes)
answer_most c (event e vs room) (Ok tt) h = packet_most (event_outcome c e vs).gives (accepted_packet c e vs room h)
answer_most c k (Err r) h = omega arith

pub bytes_most : (c : Chip) (k : Call) → length (answer_bytes (answer_of max3420e c k)) ≤ most_bytes k
unfolding answer_of
bytes_most c k = answer_most c k (checked max3420e c k) refl

-- of an entry: no more than a packet's and its body's
pub entry_most : (c : Chip) (room kind : ℕ) (body : List ℕ) → length (answer_bytes (answer_of max3420e c (call_with room kind body))) ≤ 64 + length body
entry_most c room kind body =
    cond_elim (λ (k : Call). length (answer_bytes (answer_of max3420e c k)) ≤ 64 + length body) (eqb kind 1)
    (λ _. omega (arith, bytes_most c (transfer body room))) (λ _. omega (arith, bytes_most c (event (event_of body) (payload_of body) room)))

-- and no more than were lent
transfer_fits : (c : Chip) (bytes : List ℕ) (room : ℕ) (v : Checked) → checked max3420e c (transfer bytes room) ≡ v
    → length (answer_bytes (checked_answer max3420e c (transfer bytes room) v)) ≤ room
transfer_fits c bytes room (Ok tt) h =
    omega (
      arith,
      transfer_length max3420e_spi c bytes,
      ltb-false room (length bytes) (accepted_none (transfer_grounds (sound_chip c) (length bytes) room) h 3),
    )
transfer_fits c bytes room (Err r) h = omega arith

transfer_within : (c : Chip) (bytes : List ℕ) (room : ℕ) → length (answer_bytes (answer_of max3420e c (transfer bytes room))) ≤ room
unfolding answer_of
transfer_within c bytes room = transfer_fits c bytes room (checked max3420e c (transfer bytes room)) refl

pub entry_within : (c : Chip) (room kind : ℕ) (body : List ℕ) → 64 ≤ room
    → length (answer_bytes (answer_of max3420e c (call_with room kind body))) ≤ room
entry_within c room kind body h =
    cond_elim (λ (k : Call). length (answer_bytes (answer_of max3420e c k)) ≤ room) (eqb kind 1)
    (λ _. transfer_within c body room) (λ _. omega (arith, bytes_most c (event (event_of body) (payload_of body) room)))
