-- A refused call: the records come back as given, and no lent byte changes.
use Rattle.std.specs.Prelude.{Ok, Err}
use mathlib.Core.Path.{◌≡◌, refl, sym, ap, ◌∙◌}
use mathlib.Core.List.{List}
use Prim.Native.Nat.{ℕ, suc}
use native.Mathlib.Omega.{arith}
use lib.ListN.{length}
use Rattle.refusal.specs.Check.{Checked, tells}
use Rattle.refusal.specs.Check.{checked_number}
use Rattle.chip.specs.declared.Chip.{Chip}
use Rattle.request.specs.Request.{request_of}
use Rattle.request.specs.declared.Firmware.{Firmware}
use Rattle.firmware.specs.Answer.{request_refusal, Handled, served_of, handled}
use Rattle.firmware.proofs.Laws.{answer_each, served_each}
use Rattle.model.specs.declared.Event.{Event}
use Rattle.model.specs.Call.{Call, transfer, event, checked, checked_to, checked_answer, call_to, answer_of, buffer_after, run_to}
use Rattle.rules.specs.Event.{max3420e}
use Rattle.spi.specs.Transfer.{transfer_reply_of, transfer_answer}
use Rattle.bus.specs.EventCall.{event_answer, event_buffer}
use Rattle.bus.proofs.Call.{refusal_of_law}
use Rattle.board_record.specs.declared.Board.{Board}
use Rattle.board.specs.Board.{step_checked, step_firmware, step_buffer, checked_calls, board_to, board_step}
use Rattle.board.proofs.Numbers.{step_refusal_law}
use Rattle.flat.specs.Answer.{flat_transfer, flat_event, flat_step, flat_request}

-- ---- a call to the model

checked_kept : (c : Chip) (k : Call) (buffer : List ℕ) (n : ℕ) (v : Checked) → checked_number v ≡ suc n
    → (checked_to max3420e c k v ≡ c) × (buffer_after (checked_answer max3420e c k v) buffer ≡ buffer)
checked_kept c k buffer n (Ok tt) e = absurd (omega (arith, e))
checked_kept c k buffer n (Err r) e = (refl, refl)

pub call_kept : (c : Chip) (k : Call) (buffer : List ℕ) (n : ℕ) → checked_number (checked max3420e c k) ≡ suc n
    → (call_to max3420e c k ≡ c) × (buffer_after (answer_of max3420e c k) buffer ≡ buffer)
unfolding call_to answer_of
call_kept c k buffer n e = checked_kept c k buffer n (checked max3420e c k) e

checked_tells : (c : Chip) (k : Call) (v : Checked) → tells (transfer_reply_of (checked_answer max3420e c k v)) ≡ v
checked_tells c k (Ok tt) = refl
checked_tells c k (Err r) = refl

pub transfer_tells_law : (c : Chip) (k : Call) → tells (transfer_reply_of (answer_of max3420e c k)) ≡ checked max3420e c k
unfolding answer_of
transfer_tells_law c k = checked_tells c k (checked max3420e c k)

-- ---- a transfer, an event

pub transfer_given : (c : Chip) (vs buffer : List ℕ) (n : ℕ) → (flat_transfer (transfer_answer c (transfer vs (length buffer)))).refusal ≡ suc n
    → ((flat_transfer (transfer_answer c (transfer vs (length buffer)))).chip ≡ c)
    × (buffer_after (answer_of max3420e c (transfer vs (length buffer))) buffer ≡ buffer)
unfolding flat_transfer
transfer_given c vs buffer n h =
    let k = transfer vs (length buffer) in
    call_kept c k buffer n (sym (ap checked_number (transfer_tells_law c k)) ∙ h)

pub event_given : (c : Chip) (e : Event) (vs buffer : List ℕ) (n : ℕ) → (flat_event (event_answer c e vs (length buffer))).refusal ≡ suc n
    → ((flat_event (event_answer c e vs (length buffer))).chip ≡ c) × (event_buffer c e vs buffer ≡ buffer)
unfolding flat_event
event_given c e vs buffer n h =
    let k = event e vs (length buffer) in
    call_kept c k buffer n (sym (ap checked_number (refusal_of_law c k)) ∙ h)

-- ---- the board step

pub step_kept : (b : Board) (buffer : List ℕ) (n : ℕ) (v : Checked) → checked_number v ≡ suc n
    → (run_to max3420e b.chip (checked_calls b v) ≡ b.chip) × (step_firmware b v ≡ b.firmware) × (step_buffer b v buffer ≡ buffer)
unfolding run_to
step_kept b buffer n (Ok tt) e = absurd (omega (arith, e))
step_kept b buffer n (Err r) e = (refl, refl, refl)

pub step_given : (b : Board) (buffer : List ℕ) (n : ℕ) → (flat_step (board_step b (length buffer))).refusal ≡ suc n
    → ((flat_step (board_step b (length buffer))).chip ≡ b.chip) × ((flat_step (board_step b (length buffer))).firmware ≡ b.firmware)
    × (step_buffer b (step_checked b (length buffer)) buffer ≡ buffer)
unfolding flat_step board_to
step_given b buffer n h =
    step_kept b buffer n (step_checked b (length buffer)) (sym (ap checked_number (step_refusal_law b (length buffer))) ∙ h)

-- ---- the firmware's answer

abbrev AsGiven : Firmware → List ℕ → ℕ → Handled → Type 0
AsGiven f buffer n h = request_refusal h.answer.reply ≡ suc n → (h.answer.firmware ≡ f) × (h.buffer ≡ buffer)

handled_given : (setup : List ℕ) (f : Firmware) (buffer : List ℕ) (n : ℕ) → AsGiven f buffer n (handled setup f buffer)
handled_given setup f buffer n =
    answer_each (AsGiven f buffer n) setup f buffer (λ r h. (refl, refl))
    (λ h. let none : request_refusal (served_of (request_of setup) f buffer).answer.reply ≡ 0 =
    served_each (λ q. request_refusal q ≡ 0) refl refl (λ k l. refl) (request_of setup) f buffer in
    let z : ◌≡◌ {A = ℕ} 0 (suc n) = sym none ∙ h in
    absurd (omega (arith, z)))

pub request_given : (f : Firmware) (setup buffer : List ℕ) (n : ℕ) → (flat_request (handled setup f buffer).answer).refusal ≡ suc n
    → ((flat_request (handled setup f buffer).answer).firmware ≡ f) × ((handled setup f buffer).buffer ≡ buffer)
unfolding flat_request
request_given f setup buffer n = handled_given setup f buffer n
