-- The classroom's answers as C programs get them: the classroom as it is, the reply and the pin as numbers.
use Rattle.std.specs.Prelude.{ℕ, Result}
use Rattle.refusal.specs.declared.Refusal.{Refusal}
use Rattle.refusal.specs.Check.{tells, checked_number, checked_found}
use Rattle.chip.specs.Pin.{pin_number}
use Rattle.chip.specs.declared.CallAnswer.{CallAnswer}
use Rattle.spi.specs.Transfer.{transfer_refusal, transfer_found, transfer_count}
use Rattle.bus.specs.EventCall.{event_refusal, event_found, event_pid, event_count}
use Rattle.board.specs.Board.{step_refusal, step_found, step_kind, step_count}
use Rattle.classroom_record.specs.declared.Classroom.{Classroom}
use Rattle.classroom.specs.declared.TeacherAnswer.{TeacherAnswer}
use Rattle.classroom.specs.Calls.{DeskTransfer, DeskEvent, DeskStep}
use Rattle.flat_classroom.specs.declared.FlatTeacherAnswer.{FlatTeacherAnswer}
use Rattle.flat_classroom.specs.declared.FlatDeskAnswer.{FlatDeskAnswer}
use Rattle.flat_classroom.specs.declared.FlatDeskStep.{FlatDeskStep}

unfoldable pub flat_teacher : TeacherAnswer → FlatTeacherAnswer
flat_teacher a = record { classroom = a.classroom; refusal = checked_number a.checked }

-- a transfer's or an event's, by what the PID and the count of such a reply are
unfoldable pub flat_desk_answer_of : {R : Type 0} → (Result R Refusal → ℕ) → (Result R Refusal → ℕ) → CallAnswer Classroom R → FlatDeskAnswer
flat_desk_answer_of kind count a =
    record {
      classroom = a.state;
      refusal = checked_number (tells a.reply);
      pid = kind a.reply;
      count = count a.reply;
      pin = pin_number a.pin;
      found = checked_found (tells a.reply);
    }

-- a transfer is no packet on the bus: no PID
unfoldable pub flat_desk_transfer : DeskTransfer → FlatDeskAnswer
flat_desk_transfer a =
    record {
      classroom = a.state;
      refusal = transfer_refusal a.reply;
      pid = 0;
      count = transfer_count a.reply;
      pin = pin_number a.pin;
      found = transfer_found a.reply;
    }

unfoldable pub flat_desk_event : DeskEvent → FlatDeskAnswer
flat_desk_event a =
    record {
      classroom = a.state;
      refusal = event_refusal a.reply;
      pid = event_pid a.reply;
      count = event_count a.reply;
      pin = pin_number a.pin;
      found = event_found a.reply;
    }

unfoldable pub flat_desk_step : DeskStep → FlatDeskStep
flat_desk_step a =
    record {
      classroom = a.state;
      refusal = step_refusal a.reply;
      kind = step_kind a.reply;
      count = step_count a.reply;
      pin = pin_number a.pin;
      found = step_found a.reply;
    }
