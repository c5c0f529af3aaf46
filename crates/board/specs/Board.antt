-- Calls to the board: the chip calls that each makes, the records after it, and its answer.
use Rattle.std.specs.Prelude.{Bool, not, cond, List, [], ◌∷◌, ℕ, ltb, Option, Some, None, Result, Ok, Err}
use Rattle.refusal.specs.declared.Refusal.{Refusal}
use Rattle.refusal.specs.declared.Refusal.TheVariants.{Unsound, ShortBuffer}
use Rattle.refusal.specs.Check.{Checked, tells}
use Rattle.refusal.specs.Check.{check, checked_number, checked_found}
use Rattle.request.specs.declared.Firmware.{Firmware}
use Rattle.request.specs.Record.{sound_firmware}
use Rattle.firmware.specs.declared.RequestReply.{RequestReply}
use Rattle.firmware.specs.Answer.{handled, request_kind, request_count}
use Rattle.model.specs.Call.{Call, transfer, event, Answer, refused, checked, answer_of, run_to}
use Rattle.rules.specs.Event.{max3420e}
use Rattle.board_record.specs.declared.Board.{Board}
use Rattle.board_record.specs.Record.{sound_board, firmware_for}
use Rattle.chip.specs.declared.CallAnswer.{CallAnswer}
use Rattle.chip.specs.Pin.{pin_of}
use Rattle.spi.specs.Transfer.{transfer_reply_of}
use Rattle.event_answer.specs.declared.EventReply.{EventReply}
use Rattle.bus.specs.EventCall.{event_reply_of}
use Rattle.step_transfers.specs.Step.{setup_read, served, sudav, step_calls}

-- what a transfer, an event and the step hand back; where there is nothing to serve, a step has no reply
abbrev pub BoardTransfer : Type 0
BoardTransfer = CallAnswer Board ℕ

abbrev pub BoardEvent : Type 0
BoardEvent = CallAnswer Board EventReply

abbrev pub BoardStep : Type 0
BoardStep = CallAnswer Board (Option RequestReply)

-- a transfer or an event, as the chip's; or the step, lent so many bytes for its reply
pub data BoardCall : Type 0 where
  on_chip : Call → BoardCall
  steps : (room : ℕ) → BoardCall

-- ---- a transfer or an event: refusal 1 looks at both records (decision 10)

abbrev pub board_checked : Board → Call → Checked
board_checked b k = cond (sound_firmware b.firmware) (checked max3420e b.chip k) (Err Unsound)

abbrev pub board_answer : Board → Call → Answer
board_answer b k = cond (sound_firmware b.firmware) (answer_of max3420e b.chip k) (refused Unsound)

abbrev pub firmware_at : Firmware → Call → Answer → Firmware
firmware_at f (transfer bytes room) a = f
firmware_at f (event e payload room) a = firmware_for f e (event_reply_of a)

-- ---- the step: 1 if either record is not sound, 4 for a buffer under 64 bytes whatever SUDAVIRQ is (decision 9)

abbrev pub step_grounds : Board → ℕ → List (Bool × Refusal)
step_grounds b room = (not (sound_board b), Unsound) ∷ (ltb room 64, ShortBuffer) ∷ []

abbrev pub step_checked : Board → ℕ → Checked
step_checked b room = check (step_grounds b room)

-- it replies as the firmware does
abbrev pub replied_step : Result RequestReply Refusal → Result (Option RequestReply) Refusal
replied_step (Err r) = Err r
replied_step (Ok a) = Ok (Some a)

abbrev pub step_reply_of : Board → Checked → Result (Option RequestReply) Refusal
step_reply_of b (Ok tt) = cond (sudav b.chip) (replied_step (served b.chip b.firmware).answer.reply) (Ok None)
step_reply_of b (Err r) = Err r

abbrev pub step_firmware : Board → Checked → Firmware
step_firmware b (Ok tt) = cond (sudav b.chip) (served b.chip b.firmware).answer.firmware b.firmware
step_firmware b (Err r) = b.firmware

abbrev pub step_buffer : Board → Checked → List ℕ → List ℕ
step_buffer b (Ok tt) buffer = cond (sudav b.chip) (handled (setup_read b.chip) b.firmware buffer).buffer buffer
step_buffer b (Err r) buffer = buffer

abbrev pub checked_calls : Board → Checked → List Call
checked_calls b (Ok tt) = step_calls b.chip b.firmware
checked_calls b (Err r) = []

-- ---- any call: the chip calls that it makes, one by one, and both records after it

abbrev pub chip_calls : Board → BoardCall → List Call
chip_calls b (on_chip k) = cond (sound_firmware b.firmware) (k ∷ []) []
chip_calls b (steps room) = checked_calls b (step_checked b room)

abbrev pub firmware_to : Board → BoardCall → Firmware
firmware_to b (on_chip k) = firmware_at b.firmware k (board_answer b k)
firmware_to b (steps room) = step_firmware b (step_checked b room)

unfoldable pub board_to : Board → BoardCall → Board
board_to b k = record { chip = run_to max3420e b.chip (chip_calls b k); firmware = firmware_to b k }

-- ---- numbers of the step's reply

-- the number of refusal, and the length that it tells, which is none (`step_never_8`); 0 is none
abbrev pub step_refusal : Result (Option RequestReply) Refusal → ℕ
step_refusal r = checked_number (tells r)

abbrev pub step_found : Result (Option RequestReply) Refusal → ℕ
step_found r = checked_found (tells r)

-- 0 idle, or refused; 1 stall, 2 ack, 3 data
abbrev pub step_kind : Result (Option RequestReply) Refusal → ℕ
step_kind (Err r) = 0
step_kind (Ok None) = 0
step_kind (Ok (Some a)) = request_kind (Ok a)

abbrev pub step_count : Result (Option RequestReply) Refusal → ℕ
step_count (Err r) = 0
step_count (Ok None) = 0
step_count (Ok (Some a)) = request_count (Ok a)

-- what the firmware's reply makes them
abbrev pub stepped_kind : Board → Checked → ℕ
stepped_kind b (Ok tt) = cond (sudav b.chip) (request_kind (served b.chip b.firmware).answer.reply) 0
stepped_kind b (Err r) = 0

abbrev pub stepped_count : Board → Checked → ℕ
stepped_count b (Ok tt) = cond (sudav b.chip) (request_count (served b.chip b.firmware).answer.reply) 0
stepped_count b (Err r) = 0

-- ---- the whole answer: both records, the reply, and the pin of the chip's record handed back

abbrev pub board_answer_with : {A : Type 0} → Board → Result A Refusal → CallAnswer Board A
board_answer_with b r = record { state = b; reply = r; pin = pin_of b.chip.registers }

abbrev pub board_transfer : Board → Call → BoardTransfer
board_transfer b k =
    record { state = board_to b (on_chip k); reply = transfer_reply_of (board_answer b k); pin = pin_of (board_to b (on_chip k)).chip.registers }

abbrev pub board_event : Board → Call → BoardEvent
board_event b k =
    record { state = board_to b (on_chip k); reply = event_reply_of (board_answer b k); pin = pin_of (board_to b (on_chip k)).chip.registers }

abbrev pub board_step : Board → ℕ → BoardStep
board_step b room =
    record {
      state = board_to b (steps room);
      reply = step_reply_of b (step_checked b room);
      pin = pin_of
          (board_to b (steps room)).chip.registers;
    }
