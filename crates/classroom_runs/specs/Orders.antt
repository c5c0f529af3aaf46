-- Orders to the classroom, each given the classroom that the one before returned; what one desk is sent and answers (document 02, Ask 3).
use Rattle.std.specs.Prelude.{Bool, true, false, not, cond, ◌&&◌, List, [], ◌∷◌, ◌++◌, ℕ, eqb, length, Option, Result, Ok, Err}
use Rattle.refusal.specs.declared.Refusal.{Refusal}
use Rattle.refusal.specs.Check.{Checked}
use Rattle.refusal.specs.Check.{check}
use Rattle.chip.specs.declared.Pin.{Pin}
use Rattle.model.specs.declared.Event.{Event}
use Rattle.model.specs.Call.{transfer, event, buffer_after}
use Rattle.event_answer.specs.declared.EventReply.{EventReply}
use Rattle.board_record.specs.declared.Board.{Board}
use Rattle.firmware.specs.declared.RequestReply.{RequestReply}
use Rattle.board.specs.Board.{BoardCall, on_chip, board_to, board_answer, board_transfer, board_event, board_step, step_checked, step_buffer}
use Rattle.board.specs.Board as board
use Rattle.classroom_record.specs.declared.Desk.{Desk}
use Rattle.classroom_record.specs.declared.DeskNumber.{DeskNumber}
use Rattle.classroom_record.specs.declared.Classroom.{Classroom}
use Rattle.classroom_record.specs.Record.{closed_desk, desk_at, key_in_use}
use Rattle.classroom.specs.Calls.{opening_grounds, closing_grounds, calling_grounds, opened_desk, set_board, unless_refused_desk}

-- ---- what a pupil asks of his board, with the buffer that he lends for the reply, and what he is told

pub data PupilCall : Type 0 where
  transfers : (bytes buffer : List ℕ) → PupilCall
  happens : (e : Event) (payload buffer : List ℕ) → PupilCall
  steps : (buffer : List ℕ) → PupilCall

pub data PupilReply : Type 0 where
  of_transfer : Result ℕ Refusal → PupilReply
  of_event : Result EventReply Refusal → PupilReply
  of_step : Result (Option RequestReply) Refusal → PupilReply

-- all but the records: the reply, the pin, and the lent buffer after the call
pub record Told : Type 0 where
  pub reply : PupilReply
  pub pin : Pin
  pub buffer : List ℕ

abbrev pub board_call : PupilCall → BoardCall
board_call (transfers bytes buffer) = on_chip (transfer bytes (length buffer))
board_call (happens e payload buffer) = on_chip (event e payload (length buffer))
board_call (steps buffer) = board.steps (length buffer)

-- the board's own answers
unfoldable pub told_by : Board → PupilCall → Told
told_by b (transfers bytes buffer) =
    let k = transfer bytes (length buffer) in
    record { reply = of_transfer (board_transfer b k).reply; pin = (board_transfer b k).pin; buffer = buffer_after (board_answer b k) buffer }
told_by b (happens e payload buffer) =
    let k = event e payload (length buffer) in
    record { reply = of_event (board_event b k).reply; pin = (board_event b k).pin; buffer = buffer_after (board_answer b k) buffer }
told_by b (steps buffer) =
    let a = board_step b (length buffer) in
    record { reply = of_step a.reply; pin = a.pin; buffer = step_buffer b (step_checked b (length buffer)) buffer }

-- ---- orders: the teacher opens a desk with a key, and closes it by number; a pupil's call names desk and key

pub data Order : Type 0 where
  opens : (n : DeskNumber) (key : ℕ) → Order
  closes : (n : DeskNumber) → Order
  calls : (n : DeskNumber) (key : ℕ) (k : PupilCall) → Order

-- refused with 9 to 12, or the teacher's with 1; done as the teacher says; or what the board tells a pupil, its refusals included
pub data Response : Type 0 where
  turned_away : Refusal → Response
  settled : Response
  told : Told → Response

abbrev pub desk_of : Order → DeskNumber
desk_of (opens n key) = n
desk_of (closes n) = n
desk_of (calls n key k) = n

abbrev pub key_of : Order → ℕ
key_of (opens n key) = key
key_of (closes n) = 0
key_of (calls n key k) = key

-- by the desk that is named, and whether an open desk has the key
abbrev pub order_grounds : Bool → Desk → Order → List (Bool × Refusal)
order_grounds used d (opens n key) = opening_grounds n used d key
order_grounds used d (closes n) = closing_grounds n d
order_grounds used d (calls n key k) = calling_grounds n d key

abbrev pub order_checked : Classroom → Order → Checked
order_checked room o = check (order_grounds (key_in_use room (key_of o)) (desk_at room (desk_of o)) o)

-- the desk after an accepted order, and the response to it
abbrev pub desk_to : Desk → Order → Desk
desk_to d (opens n key) = opened_desk key d
desk_to d (closes n) = closed_desk
desk_to d (calls n key k) = set_board (board_to d.board (board_call k)) d

abbrev pub accepted_by : Desk → Order → Response
accepted_by d (opens n key) = settled
accepted_by d (closes n) = settled
accepted_by d (calls n key k) = told (told_by d.board k)

-- by what is found of the order
abbrev pub response_by : Desk → Order → Checked → Response
response_by d o (Ok tt) = accepted_by d o
response_by d o (Err r) = turned_away r

abbrev pub response_of : Classroom → Order → Response
response_of room o = response_by (desk_at room (desk_of o)) o (order_checked room o)

abbrev pub order_to : Classroom → Order → Classroom
order_to room o = unless_refused_desk room (desk_of o) (desk_to (desk_at room (desk_of o)) o) (order_checked room o)

-- ---- a list of orders

-- what was ordered and answered; no record
pub record Heard : Type 0 where
  pub order : Order
  pub response : Response

unfoldable pub class_to : Classroom → List Order → Classroom
class_to room [] = room
class_to room (o ∷ os) = class_to (order_to room o) os

unfoldable pub class_history : Classroom → List Order → List Heard
class_history room [] = []
class_history room (o ∷ os) = record { order = o; response = response_of room o } ∷ class_history (order_to room o) os

-- ---- one desk

abbrev pub names : DeskNumber → Order → Bool
names n o = eqb n.0 (desk_of o).0

-- what desk n is sent
abbrev pub sent_to : DeskNumber → List Order → List Order
sent_to n [] = []
sent_to n (o ∷ os) = cond (names n o) (o ∷ sent_to n os) (sent_to n os)

-- what was sent to desk n, with the responses
abbrev pub heard_at : DeskNumber → List Heard → List Heard
heard_at n [] = []
heard_at n (h ∷ hs) = cond (names n h.order) (h ∷ heard_at n hs) (heard_at n hs)

abbrev pub is_closing : Order → Bool
is_closing (opens n key) = false
is_closing (closes n) = true
is_closing (calls n key k) = false

-- no order closes
abbrev pub unclosed : List Order → Bool
unclosed [] = true
unclosed (o ∷ os) = not (is_closing o) && unclosed os

-- the calls that reached the board since the last accepted opening or closing, oldest first: those so far, and one order more
abbrev pub note_order : List PupilCall → Order → Response → List PupilCall
note_order ks o (turned_away r) = ks
note_order ks o settled = []
note_order ks (opens n key) (told t) = ks
note_order ks (closes n) (told t) = ks
note_order ks (calls n key k) (told t) = ks ++ (k ∷ [])

unfoldable pub calls_since : List PupilCall → List Heard → List PupilCall
calls_since ks [] = ks
calls_since ks (h ∷ hs) = calls_since (note_order ks h.order h.response) hs
