-- Answers as C programs get them: the records as they are, the reply and the pin as numbers.
use Rattle.refusal.specs.declared.Refusal.{Refusal}
use Rattle.refusal.specs.Check.{tells, checked_number, checked_found}
use Rattle.std.specs.Prelude.{ℕ, Option, Result}
use Rattle.chip.specs.Pin.{pin_number}
use Rattle.chip.specs.declared.Chip.{Chip}
use Rattle.chip.specs.declared.CallAnswer.{CallAnswer}
use Rattle.request.specs.declared.Endpoints.{Endpoints}
use Rattle.request.specs.declared.Endpoints.TheVariants.{Unchanged, ClearHalt, SetHalt, Configure}
use Rattle.firmware.specs.declared.RequestReply.{RequestReply}
use Rattle.firmware.specs.declared.RequestAnswer.{RequestAnswer}
use Rattle.firmware.specs.Answer.{request_refusal, request_found, request_kind, request_count}
use Rattle.spi.specs.Transfer.{TransferAnswer}
use Rattle.spi.specs.Transfer.{transfer_refusal, transfer_found, transfer_count}
use Rattle.event_answer.specs.declared.EventReply.{EventReply}
use Rattle.event_answer.specs.Answer.{EventAnswer}
use Rattle.bus.specs.EventCall.{event_refusal, event_found, event_pid, event_count}
use Rattle.board.specs.Board.{BoardStep, step_refusal, step_found, step_kind, step_count}
use Rattle.flat.specs.declared.Numbers.{Numbers}
use Rattle.flat.specs.declared.FlatAnswer.{FlatAnswer}
use Rattle.flat.specs.declared.FlatBoardAnswer.{FlatBoardAnswer}
use Rattle.flat.specs.declared.FlatRequestAnswer.{FlatRequestAnswer}

-- ---- a reply in numbers

-- by what the kind (of a packet, its PID) and the count of such a reply are
abbrev pub numbers_of : {R : Type 0} → (Result R Refusal → ℕ) → (Result R Refusal → ℕ) → Result R Refusal → Numbers
numbers_of kind count r = record { refusal = checked_number (tells r); found = checked_found (tells r); kind = kind r; count = count r }

-- a transfer is no packet on the bus: no PID
abbrev pub transfer_numbers : Result ℕ Refusal → Numbers
transfer_numbers r = record { refusal = transfer_refusal r; found = transfer_found r; kind = 0; count = transfer_count r }

abbrev pub event_numbers : Result EventReply Refusal → Numbers
event_numbers r = record { refusal = event_refusal r; found = event_found r; kind = event_pid r; count = event_count r }

abbrev pub step_numbers : Result (Option RequestReply) Refusal → Numbers
step_numbers r = record { refusal = step_refusal r; found = step_found r; kind = step_kind r; count = step_count r }

abbrev pub request_numbers : Result RequestReply Refusal → Numbers
request_numbers r = record { refusal = request_refusal r; found = request_found r; kind = request_kind r; count = request_count r }

-- what is to be written to R9 and R10: nothing, for the end of a halt, for a halt, for a configuration
abbrev pub endpoints_number : Endpoints → ℕ
endpoints_number Unchanged = 0
endpoints_number ClearHalt = 1
endpoints_number SetHalt = 2
endpoints_number Configure = 3

-- ---- whole answers

-- by what the PID and the count of such a reply are
unfoldable pub flat_answer_of : {R : Type 0} → (Result R Refusal → ℕ) → (Result R Refusal → ℕ) → CallAnswer Chip R → FlatAnswer
flat_answer_of kind count a =
    record {
      chip = a.state;
      refusal = checked_number (tells a.reply);
      pid = kind a.reply;
      count = count a.reply;
      pin = pin_number a.pin;
      found = checked_found (tells a.reply);
    }

unfoldable pub flat_transfer : TransferAnswer → FlatAnswer
flat_transfer a =
    record {
      chip = a.state;
      refusal = transfer_refusal a.reply;
      pid = 0;
      count = transfer_count a.reply;
      pin = pin_number a.pin;
      found = transfer_found a.reply;
    }

unfoldable pub flat_event : EventAnswer → FlatAnswer
flat_event a =
    record {
      chip = a.state;
      refusal = event_refusal a.reply;
      pid = event_pid a.reply;
      count = event_count a.reply;
      pin = pin_number a.pin;
      found = event_found a.reply;
    }

unfoldable pub flat_step : BoardStep → FlatBoardAnswer
flat_step a =
    record {
      chip = a.state.chip;
      firmware = a.state.firmware;
      refusal = step_refusal a.reply;
      kind = step_kind a.reply;
      count = step_count a.reply;
      pin = pin_number a.pin;
      found = step_found a.reply;
    }

unfoldable pub flat_request : RequestAnswer → FlatRequestAnswer
flat_request a =
    record {
      firmware = a.firmware;
      refusal = request_refusal a.reply;
      kind = request_kind a.reply;
      endpoints = endpoints_number a.endpoints;
      count = request_count a.reply;
      found = request_found a.reply;
    }
