-- What the classroom's calls hand back, as the response that the theorems speak of.
use Rattle.std.specs.Prelude.{◌≡◌, ℕ, length, Ok, Err}
use Rattle.refusal.specs.declared.Refusal.{Refusal}
use Rattle.refusal.specs.Check.{Checked}
use Rattle.chip.specs.declared.Pin.TheVariants.{Open}
use Rattle.event_answer.specs.declared.EventReply.TheVariants as event
use Rattle.model.specs.Call as model
use Rattle.classroom_record.specs.declared.DeskNumber.{DeskNumber}
use Rattle.classroom_record.specs.declared.Classroom.{Classroom}
use Rattle.classroom.specs.Calls.{open_answer, close_answer, desk_transfer, transfer_lent, desk_event, event_lent, desk_step, step_lent}
use Rattle.classroom_runs.specs.Orders.{PupilCall, transfers, happens, steps, of_transfer, of_event, of_step, Told, Order, opens, closes}
use Rattle.classroom_runs.specs.Orders.{calls, Response, turned_away, settled, told}

-- the classroom that the call returns
unfoldable pub made_classroom : Classroom → Order → Classroom
made_classroom room (opens n key) = (open_answer room n key).classroom
made_classroom room (closes n) = (close_answer room n).classroom
made_classroom room (calls n key (transfers bytes buffer)) = (desk_transfer room n key (model.transfer bytes (length buffer))).state
made_classroom room (calls n key (happens e payload buffer)) = (desk_event room n key (model.event e payload (length buffer))).state
made_classroom room (calls n key (steps buffer)) = (desk_step room n key (length buffer)).state

-- the rest of what a pupil's call hands back: reply, pin, and the lent bytes
unfoldable pub made_told : Classroom → DeskNumber → ℕ → PupilCall → Told
made_told room n key (transfers bytes buffer) =
    let a = desk_transfer room n key (model.transfer bytes (length buffer)) in
    record { reply = of_transfer a.reply; pin = a.pin; buffer = transfer_lent room n key bytes buffer }
made_told room n key (happens e payload buffer) =
    let a = desk_event room n key (model.event e payload (length buffer)) in
    record { reply = of_event a.reply; pin = a.pin; buffer = event_lent room n key e payload buffer }
made_told room n key (steps buffer) =
    let a = desk_step room n key (length buffer) in
    record { reply = of_step a.reply; pin = a.pin; buffer = step_lent room n key buffer }

-- a call that is turned away tells its number, an open pin, and the lent bytes as they were
abbrev pub away_told : PupilCall → Refusal → Told
away_told (transfers bytes buffer) r = record { reply = of_transfer (Err r); pin = Open; buffer = buffer }
away_told (happens e payload buffer) r = record { reply = of_event (Err r); pin = Open; buffer = buffer }
away_told (steps buffer) r = record { reply = of_step (Err r); pin = Open; buffer = buffer }

-- what a pupil's call hands back is its response
abbrev pub HandsBack : PupilCall → Told → Response → Type 0
HandsBack k t (turned_away r) = t ≡ away_told k r
HandsBack k t settled = ⊥
HandsBack k t (told u) = t ≡ u

-- and what the teacher's call answers
abbrev pub teacher_response : Checked → Response
teacher_response (Ok tt) = settled
teacher_response (Err r) = turned_away r
