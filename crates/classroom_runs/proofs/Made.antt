-- The classroom's calls hand back the classroom and the response that the theorems speak of.
use Rattle.std.specs.Prelude.{Ok, Err}
use mathlib.Core.Path.{◌≡◌, refl}
use mathlib.Core.List.{List}
use Prim.Native.Nat.{ℕ}
use lib.ListN.{length}
use Rattle.refusal.specs.Check.{Checked}
use Rattle.model.specs.declared.Event.{Event}
use Rattle.model.specs.Call.{transfer, event, buffer_after}
use Rattle.chip.specs.declared.CallAnswer.{CallAnswer}
use Rattle.board_record.specs.declared.Board.{Board}
use Rattle.board.specs.Board.{BoardCall, on_chip, board_answer, board_transfer, board_event, board_step, step_checked, step_buffer}
use Rattle.board.specs.Board as board
use Rattle.classroom_record.specs.declared.Desk.{Desk}
use Rattle.classroom_record.specs.declared.DeskNumber.{DeskNumber}
use Rattle.classroom_record.specs.declared.Classroom.{Classroom}
use Rattle.classroom_record.specs.Record.{desk_at}
use Rattle.classroom.specs.Calls.{opening_checked, closing_checked, calling_checked, open_answer, close_answer, board_at, calling_to, lent_after}
use Rattle.classroom.specs.Calls.{desk_by, desk_transfer, transfer_lent, desk_event, event_lent, desk_step, step_lent}
use Rattle.classroom_runs.specs.Orders.{PupilCall, transfers, happens, steps, of_transfer, of_event, of_step, told_by, Order, opens, closes}
use Rattle.classroom_runs.specs.Orders.{calls, response_by, response_of, order_to}
use Rattle.classroom_runs.specs.Made.{made_classroom, made_told, HandsBack, teacher_response}

-- ---- the classroom

-- by what is found of the call
by_to : {A : Type 0} (room : Classroom) (n : DeskNumber) (k : BoardCall) (a : CallAnswer Board A) (v : Checked)
    → (desk_by room n k a v).state ≡ calling_to room n k v
by_to room n k a (Ok tt) = refl
by_to room n k a (Err r) = refl

pub made_classroom_law : (room : Classroom) (o : Order) → made_classroom room o ≡ order_to room o
unfolding made_classroom open_answer close_answer desk_transfer desk_event desk_step
made_classroom_law room (opens n key) = refl
made_classroom_law room (closes n) = refl
made_classroom_law room (calls n key (transfers bytes buffer)) =
    by_to room n _ (board_transfer (board_at room n) (transfer bytes (length buffer))) (calling_checked room n key)
made_classroom_law room (calls n key (happens e payload buffer)) =
    by_to room n _ (board_event (board_at room n) (event e payload (length buffer))) (calling_checked room n key)
made_classroom_law room (calls n key (steps buffer)) =
    by_to room n _ (board_step (board_at room n) (length buffer)) (calling_checked room n key)

-- ---- the response

teacher_by : (d : Desk) (v : Checked) (n : DeskNumber) (key : ℕ) → teacher_response v ≡ response_by d (opens n key) v
teacher_by d (Ok tt) n key = refl
teacher_by d (Err r) n key = refl

pub opens_made : (room : Classroom) (n : DeskNumber) (key : ℕ) → teacher_response (open_answer room n key).checked ≡ response_of room (opens n key)
unfolding open_answer
opens_made room n key = teacher_by (desk_at room n) (opening_checked room n key) n key

closing_by : (d : Desk) (v : Checked) (n : DeskNumber) → teacher_response v ≡ response_by d (closes n) v
closing_by d (Ok tt) n = refl
closing_by d (Err r) n = refl

pub closes_made : (room : Classroom) (n : DeskNumber) → teacher_response (close_answer room n).checked ≡ response_of room (closes n)
unfolding close_answer
closes_made room n = closing_by (desk_at room n) (closing_checked room n) n

-- by what is found of the call
transfer_told : (room : Classroom) (n : DeskNumber) (key : ℕ) (bytes buffer : List ℕ) (v : Checked)
    → HandsBack (transfers bytes buffer) (record {
      reply = of_transfer (desk_by room n (on_chip (transfer bytes (length buffer))) (board_transfer (board_at room n) (transfer bytes (length buffer))) v).reply;
      pin = (desk_by room n (on_chip (transfer bytes (length buffer))) (board_transfer (board_at room n) (transfer bytes (length buffer))) v).pin;
      buffer = lent_after (buffer_after (board_answer (board_at room n) (transfer bytes (length buffer))) buffer) buffer v;
    }) (response_by (desk_at room n) (calls n key (transfers bytes buffer)) v)
unfolding told_by
transfer_told room n key bytes buffer (Ok tt) = refl
transfer_told room n key bytes buffer (Err r) = refl

event_told : (room : Classroom) (n : DeskNumber) (key : ℕ) (e : Event) (payload buffer : List ℕ) (v : Checked)
    → HandsBack (happens e payload buffer) (record {
      reply = of_event (desk_by room n (on_chip (event e payload (length buffer))) (board_event (board_at room n) (event e payload (length buffer))) v).reply;
      pin = (desk_by room n (on_chip (event e payload (length buffer))) (board_event (board_at room n) (event e payload (length buffer))) v).pin;
      buffer = lent_after (buffer_after (board_answer (board_at room n) (event e payload (length buffer))) buffer) buffer v;
    }) (response_by (desk_at room n) (calls n key (happens e payload buffer)) v)
unfolding told_by
event_told room n key e payload buffer (Ok tt) = refl
event_told room n key e payload buffer (Err r) = refl

step_told : (room : Classroom) (n : DeskNumber) (key : ℕ) (buffer : List ℕ) (v : Checked)
    → HandsBack (steps buffer) (record {
      reply = of_step (desk_by room n (board.steps (length buffer)) (board_step (board_at room n) (length buffer)) v).reply;
      pin = (desk_by room n (board.steps (length buffer)) (board_step (board_at room n) (length buffer)) v).pin;
      buffer = lent_after (step_buffer (board_at room n) (step_checked (board_at room n) (length buffer)) buffer) buffer v;
    }) (response_by (desk_at room n) (calls n key (steps buffer)) v)
unfolding told_by
step_told room n key buffer (Ok tt) = refl
step_told room n key buffer (Err r) = refl

pub calls_made : (room : Classroom) (n : DeskNumber) (key : ℕ) (k : PupilCall)
    → HandsBack k (made_told room n key k) (response_of room (calls n key k))
unfolding made_told desk_transfer transfer_lent desk_event event_lent desk_step step_lent
calls_made room n key (transfers bytes buffer) = transfer_told room n key bytes buffer (calling_checked room n key)
calls_made room n key (happens e payload buffer) = event_told room n key e payload buffer (calling_checked room n key)
calls_made room n key (steps buffer) = step_told room n key buffer (calling_checked room n key)
