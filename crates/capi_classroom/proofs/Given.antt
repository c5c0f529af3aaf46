-- A refused call of the classroom: the classroom comes back as given, and no lent byte changes.
use Rattle.std.specs.Prelude.{Ok, Err}
use mathlib.Core.Path.{◌≡◌, refl, sym, ap, ◌∙◌}
use mathlib.Core.Bool.{Bool, true, false, cond, ◌&&◌}
use mathlib.Core.List.{List, [], ◌∷◌}
use Prim.Native.Nat.{ℕ, suc}
use native.Mathlib.Omega.{arith}
use lib.ListN.{length}
use lib.Seq.{set-get_or}
use Rattle.bits.proofs.Cases.{cond_elim, true_is_false, and_true}
use Rattle.refusal.specs.declared.Refusal.{Refusal}
use Rattle.refusal.specs.declared.Refusal.TheVariants.{Unsound}
use Rattle.refusal.specs.Check.{Checked, tells}
use Rattle.refusal.specs.Check.{checked_number}
use Rattle.chip.specs.declared.Chip.{Chip}
use Rattle.request.specs.declared.Firmware.{Firmware}
use Rattle.request.specs.Record.{sound_firmware}
use Rattle.model.specs.declared.Event.{Event}
use Rattle.model.specs.Call.{Call, transfer, event, Answer, refused, checked, checked_answer, answer_of, buffer_after, run_to}
use Rattle.rules.specs.Event.{max3420e}
use Rattle.spi.specs.Transfer.{transfer_reply_of}
use Rattle.bus.specs.EventCall.{event_reply_of}
use Rattle.bus.proofs.Call.{refusal_of_law}
use Rattle.board_record.specs.declared.Board.{Board}
use Rattle.board_record.specs.Record.{starts_anew}
use Rattle.board.specs.Board.{on_chip, steps, board_to, board_answer, board_transfer, board_event, board_step, firmware_at, step_checked, step_buffer}
use Rattle.board.proofs.Numbers.{step_refusal_law}
use Rattle.classroom_record.specs.declared.Desk.{Desk}
use Rattle.classroom_record.specs.declared.DeskNumber.{DeskNumber}
use Rattle.classroom_record.specs.declared.Classroom.{Classroom}
use Rattle.classroom_record.specs.Record.{closed_desk, desk_at, set_desk}
use Rattle.classroom.specs.Calls.{unless_refused_desk, opening_checked, closing_checked, calling_checked, opened_desk, set_board, board_at, calling_to}
use Rattle.classroom.specs.Calls.{lent_after, open_answer, close_answer, desk_by, desk_transfer, transfer_lent}
use Rattle.classroom.specs.Calls.{desk_event, event_lent, desk_step, step_lent}
use Rattle.flat_classroom.specs.Answer.{flat_teacher, flat_desk_transfer, flat_desk_event, flat_desk_step}
use Rattle.capi.proofs.Given.{call_kept, transfer_tells_law, step_kept}

-- ---- the teacher's calls

desk_kept : (room : Classroom) (d : DeskNumber) (x : Desk) (n : ℕ) (v : Checked) → checked_number v ≡ suc n
    → unless_refused_desk room d x v ≡ room
desk_kept room d x n (Ok tt) e = absurd (omega (arith, e))
desk_kept room d x n (Err r) e = refl

pub open_given : (room : Classroom) (d : DeskNumber) (key n : ℕ) → (flat_teacher (open_answer room d key)).refusal ≡ suc n
    → (flat_teacher (open_answer room d key)).classroom ≡ room
unfolding flat_teacher open_answer
open_given room d key n h = desk_kept room d (opened_desk key (desk_at room d)) n (opening_checked room d key) h

pub close_given : (room : Classroom) (d : DeskNumber) (n : ℕ) → (flat_teacher (close_answer room d)).refusal ≡ suc n
    → (flat_teacher (close_answer room d)).classroom ≡ room
unfolding flat_teacher close_answer
close_given room d n h = desk_kept room d closed_desk n (closing_checked room d) h

-- ---- the board at a desk

-- a desk that is put back as it was
room_kept : (room : Classroom) (d : DeskNumber) (b : Board) → b ≡ board_at room d → set_desk d (set_board b (desk_at room d)) room ≡ room
room_kept room d b e =
    ap (λ (x : Board). set_desk d (set_board x (desk_at room d)) room) e
    ∙ (λ i. record { desks = set-get_or room.desks d.0 closed_desk i })

-- the firmware's record after an answer that refuses
firmware_kept : (f : Firmware) (k : Call) (r : Refusal) → firmware_at f k (refused r) ≡ f
firmware_kept f (transfer vs room) r = refl
firmware_kept f (event e vs room) r =
    cond_elim (λ (g : Firmware). g ≡ f) (starts_anew e && false) (λ t. true_is_false (sym (and_true (starts_anew e) false t).1)) (λ t. refl)

firmware_refused : (c : Chip) (f : Firmware) (k : Call) (n : ℕ) (v : Checked) → checked_number v ≡ suc n
    → firmware_at f k (checked_answer max3420e c k v) ≡ f
firmware_refused c f k n (Ok tt) e = absurd (omega (arith, e))
firmware_refused c f k n (Err r) e = firmware_kept f k r

firmware_given : (c : Chip) (f : Firmware) (k : Call) (n : ℕ) → checked_number (checked max3420e c k) ≡ suc n
    → firmware_at f k (answer_of max3420e c k) ≡ f
unfolding answer_of
firmware_given c f k n e = firmware_refused c f k n (checked max3420e c k) e

-- a transfer or an event of the board, by what its answer tells
module _ (tells : Answer → Checked) (told : (c : Chip) (k : Call) → tells (answer_of max3420e c k) ≡ checked max3420e c k) where
  calls_kept : (b : Board) (k : Call) (buffer : List ℕ) (n : ℕ) (sound : Bool)
      → checked_number (tells (cond sound (answer_of max3420e b.chip k) (refused Unsound))) ≡ suc n
      → (run_to max3420e b.chip (cond sound (k ∷ []) []) ≡ b.chip)
      × (firmware_at b.firmware k (cond sound (answer_of max3420e b.chip k) (refused Unsound)) ≡ b.firmware)
      × (buffer_after (cond sound (answer_of max3420e b.chip k) (refused Unsound)) buffer ≡ buffer)
  unfolding run_to
  calls_kept b k buffer n true e =
      let refusal : checked_number (checked max3420e b.chip k) ≡ suc n = sym (ap checked_number (told b.chip k)) ∙ e in
      let kept = call_kept b.chip k buffer n refusal in
      (kept.0, firmware_given b.chip b.firmware k n refusal, kept.1)
  calls_kept b k buffer n false e = (refl, firmware_kept b.firmware k Unsound, refl)

  board_kept : (b : Board) (k : Call) (buffer : List ℕ) (n : ℕ) → checked_number (tells (board_answer b k)) ≡ suc n
      → (board_to b (on_chip k) ≡ b) × (buffer_after (board_answer b k) buffer ≡ buffer)
  unfolding board_to
  board_kept b k buffer n e =
      let kept = calls_kept b k buffer n (sound_firmware b.firmware) e in
      ((λ i. record { chip = kept.0 i; firmware = kept.1 i }), kept.2)

  at_desk_kept : (room : Classroom) (d : DeskNumber) (k : Call) (buffer : List ℕ) (n : ℕ)
      → checked_number (tells (board_answer (board_at room d) k)) ≡ suc n
      → (calling_to room d (on_chip k) (Ok tt) ≡ room) × (buffer_after (board_answer (board_at room d) k) buffer ≡ buffer)
  at_desk_kept room d k buffer n e =
      let kept = board_kept (board_at room d) k buffer n e in
      (room_kept room d (board_to (board_at room d) (on_chip k)) kept.0, kept.1)

-- ---- a pupil's transfer, event and step, by what the desk's own checks say

transfer_kept : (room : Classroom) (d : DeskNumber) (k : Call) (buffer : List ℕ) (n : ℕ) (v : Checked)
    → checked_number (tells (desk_by room d (on_chip k) (board_transfer (board_at room d) k) v).reply) ≡ suc n
    → ((desk_by room d (on_chip k) (board_transfer (board_at room d) k) v).state ≡ room) × (lent_after (buffer_after (board_answer (board_at room d) k) buffer) buffer v ≡ buffer)
transfer_kept room d k buffer n (Ok tt) e = at_desk_kept (λ a. tells (transfer_reply_of a)) transfer_tells_law room d k buffer n e
transfer_kept room d k buffer n (Err r) e = (refl, refl)

pub desk_transfer_given : (room : Classroom) (d : DeskNumber) (key : ℕ) (vs buffer : List ℕ) (n : ℕ)
    → (flat_desk_transfer (desk_transfer room d key (transfer vs (length buffer)))).refusal ≡ suc n
    → ((flat_desk_transfer (desk_transfer room d key (transfer vs (length buffer)))).classroom ≡ room)
    × (transfer_lent room d key vs buffer ≡ buffer)
unfolding flat_desk_transfer desk_transfer transfer_lent
desk_transfer_given room d key vs buffer n h =
    transfer_kept room d (transfer vs (length buffer)) buffer n (calling_checked room d key) h

event_kept : (room : Classroom) (d : DeskNumber) (k : Call) (buffer : List ℕ) (n : ℕ) (v : Checked)
    → checked_number (tells (desk_by room d (on_chip k) (board_event (board_at room d) k) v).reply) ≡ suc n
    → ((desk_by room d (on_chip k) (board_event (board_at room d) k) v).state ≡ room) × (lent_after (buffer_after (board_answer (board_at room d) k) buffer) buffer v ≡ buffer)
event_kept room d k buffer n (Ok tt) e = at_desk_kept (λ a. tells (event_reply_of a)) refusal_of_law room d k buffer n e
event_kept room d k buffer n (Err r) e = (refl, refl)

pub desk_event_given : (room : Classroom) (d : DeskNumber) (key : ℕ) (e : Event) (vs buffer : List ℕ) (n : ℕ)
    → (flat_desk_event (desk_event room d key (event e vs (length buffer)))).refusal ≡ suc n
    → ((flat_desk_event (desk_event room d key (event e vs (length buffer)))).classroom ≡ room)
    × (event_lent room d key e vs buffer ≡ buffer)
unfolding flat_desk_event desk_event event_lent
desk_event_given room d key e vs buffer n h =
    event_kept room d (event e vs (length buffer)) buffer n (calling_checked room d key) h

steps_kept : (room : Classroom) (d : DeskNumber) (buffer : List ℕ) (n : ℕ) (v : Checked)
    → checked_number (tells (desk_by room d (steps (length buffer)) (board_step (board_at room d) (length buffer)) v).reply) ≡ suc n
    → ((desk_by room d (steps (length buffer)) (board_step (board_at room d) (length buffer)) v).state ≡ room)
    × (lent_after (step_buffer (board_at room d) (step_checked (board_at room d) (length buffer)) buffer) buffer v ≡ buffer)
unfolding board_to
steps_kept room d buffer n (Ok tt) e =
    let b = board_at room d in
    let lent = length buffer in
    let kept = step_kept b buffer n (step_checked b lent) (sym (ap checked_number (step_refusal_law b lent)) ∙ e) in
    (room_kept room d (board_to b (steps lent)) (λ i. record { chip = kept.0 i; firmware = kept.1 i }), kept.2)
steps_kept room d buffer n (Err r) e = (refl, refl)

pub desk_step_given : (room : Classroom) (d : DeskNumber) (key : ℕ) (buffer : List ℕ) (n : ℕ)
    → (flat_desk_step (desk_step room d key (length buffer))).refusal ≡ suc n
    → ((flat_desk_step (desk_step room d key (length buffer))).classroom ≡ room) × (step_lent room d key buffer ≡ buffer)
unfolding flat_desk_step desk_step step_lent
desk_step_given room d key buffer n h = steps_kept room d buffer n (calling_checked room d key) h
