-- The classroom's five calls: when each is refused, its answer, and the classroom after it (document 02, Ask 3). A pupil's call is the
-- board's own, on the records of his desk; no rule of the chip is named here.
use Rattle.std.specs.Prelude.{Bool, not, ◌||◌, List, [], ◌∷◌, ℕ, eqb, length, Option, Ok, Err}
use Rattle.bits.specs.Flag.{is_on}
use Rattle.refusal.specs.declared.Refusal.{Refusal}
use Rattle.refusal.specs.declared.Refusal.TheVariants.{Unsound, NoDesk, DeskState, WrongKey, BadKey}
use Rattle.refusal.specs.Check.{Checked}
use Rattle.refusal.specs.Check.{check}
use Rattle.chip.specs.declared.Pin.TheVariants.{Open}
use Rattle.model.specs.declared.Event.{Event}
use Rattle.model.specs.Call.{Call, transfer, event, buffer_after}
use Rattle.chip.specs.declared.CallAnswer.{CallAnswer}
use Rattle.event_answer.specs.declared.EventReply.{EventReply}
use Rattle.firmware.specs.declared.RequestReply.{RequestReply}
use Rattle.board_record.specs.declared.Board.{Board}
use Rattle.board.specs.Board.{BoardCall, on_chip, steps, board_to, board_answer, board_transfer, board_event, board_step, step_checked, step_buffer}
use Rattle.classroom_record.specs.declared.Desk.{Desk}
use Rattle.classroom_record.specs.declared.DeskNumber.{DeskNumber}
use Rattle.classroom_record.specs.declared.Classroom.{Classroom}
use Rattle.classroom_record.specs.Record.{is_desk, is_open, closed_desk, sound_desk, desk_at, set_desk, key_in_use}
use Rattle.classroom.specs.declared.TeacherAnswer.{TeacherAnswer}

-- ---- refusals in the order of the paper, of which the first that applies is given: 9 no such desk, 10 desk closed (or, on opening,
-- already open), 11 wrong key, 12 key 0 or in use at another open desk (opening only), then 1, of the named desk only. At a desk that is
-- not open, every open one is another.

abbrev pub opening_grounds : DeskNumber → Bool → Desk → ℕ → List (Bool × Refusal)
opening_grounds n used d key =
    (not (is_desk n), NoDesk) ∷ (is_open d, DeskState) ∷ (eqb key 0 || used, BadKey) ∷ (not (sound_desk d), Unsound) ∷ []

abbrev pub closing_grounds : DeskNumber → Desk → List (Bool × Refusal)
closing_grounds n d = (not (is_desk n), NoDesk) ∷ (not (is_open d), DeskState) ∷ (not (sound_desk d), Unsound) ∷ []

-- of a desk's flag and key
abbrev pub key_grounds : ℕ → ℕ → ℕ → List (Bool × Refusal)
key_grounds opened own key = (not (is_on opened), DeskState) ∷ (not (eqb own key), WrongKey) ∷ []

-- then the board's own grounds, 1 first
abbrev pub calling_grounds : DeskNumber → Desk → ℕ → List (Bool × Refusal)
calling_grounds n d key = (not (is_desk n), NoDesk) ∷ key_grounds d.opened d.key key

abbrev pub opening_checked : Classroom → DeskNumber → ℕ → Checked
opening_checked room n key = check (opening_grounds n (key_in_use room key) (desk_at room n) key)

abbrev pub closing_checked : Classroom → DeskNumber → Checked
closing_checked room n = check (closing_grounds n (desk_at room n))

abbrev pub calling_checked : Classroom → DeskNumber → ℕ → Checked
calling_checked room n key = check (calling_grounds n (desk_at room n) key)

-- ---- the desk after a call, and the classroom; a refused call changes nothing

-- its records are those of power-on: it was closed and sound
abbrev pub opened_desk : ℕ → Desk → Desk
opened_desk key d = record { board = d.board; opened = 1; key = key }

abbrev pub set_board : Board → Desk → Desk
set_board b d = record { board = b; opened = d.opened; key = d.key }

abbrev pub unless_refused_desk : Classroom → DeskNumber → Desk → Checked → Classroom
unless_refused_desk room n d (Ok tt) = set_desk n d room
unless_refused_desk room n d (Err r) = room

-- ---- the teacher's calls

unfoldable pub open_answer : Classroom → DeskNumber → ℕ → TeacherAnswer
open_answer room n key =
    record {
      classroom = unless_refused_desk room n (opened_desk key (desk_at room n)) (opening_checked room n key);
      checked = opening_checked room n key;
    }

-- closing puts both records back to power-on, and the key to 0
unfoldable pub close_answer : Classroom → DeskNumber → TeacherAnswer
close_answer room n =
    record { classroom = unless_refused_desk room n closed_desk (closing_checked room n); checked = closing_checked room n }

-- ---- a pupil's calls

abbrev pub DeskTransfer : Type 0
DeskTransfer = CallAnswer Classroom ℕ

abbrev pub DeskEvent : Type 0
DeskEvent = CallAnswer Classroom EventReply

abbrev pub DeskStep : Type 0
DeskStep = CallAnswer Classroom (Option RequestReply)

abbrev pub board_at : Classroom → DeskNumber → Board
board_at room n = (desk_at room n).board

abbrev pub calling_to : Classroom → DeskNumber → BoardCall → Checked → Classroom
calling_to room n k v = unless_refused_desk room n (set_board (board_to (board_at room n) k) (desk_at room n)) v

-- the lent buffer: as the board leaves it, or as it was
abbrev pub lent_after : List ℕ → List ℕ → Checked → List ℕ
lent_after after buffer (Ok tt) = after
lent_after after buffer (Err r) = buffer

-- what is handed back where the board answers a: its reply and pin, the records at the desk; of a refused call nothing of the desk
abbrev pub desk_by : {A : Type 0} → Classroom → DeskNumber → BoardCall → CallAnswer Board A → Checked → CallAnswer Classroom A
desk_by room n k a (Ok tt) = record { state = calling_to room n k (Ok tt); reply = a.reply; pin = a.pin }
desk_by room n k a (Err r) = record { state = room; reply = Err r; pin = Open }

unfoldable pub desk_transfer : Classroom → DeskNumber → ℕ → Call → DeskTransfer
desk_transfer room n key k = desk_by room n (on_chip k) (board_transfer (board_at room n) k) (calling_checked room n key)

unfoldable pub transfer_lent : Classroom → DeskNumber → ℕ → List ℕ → List ℕ → List ℕ
transfer_lent room n key bytes buffer =
    lent_after (buffer_after (board_answer (board_at room n) (transfer bytes (length buffer))) buffer) buffer (calling_checked room n key)

unfoldable pub desk_event : Classroom → DeskNumber → ℕ → Call → DeskEvent
desk_event room n key k = desk_by room n (on_chip k) (board_event (board_at room n) k) (calling_checked room n key)

unfoldable pub event_lent : Classroom → DeskNumber → ℕ → Event → List ℕ → List ℕ → List ℕ
event_lent room n key e payload buffer =
    lent_after (buffer_after (board_answer (board_at room n) (event e payload (length buffer))) buffer) buffer (calling_checked room n key)

unfoldable pub desk_step : Classroom → DeskNumber → ℕ → ℕ → DeskStep
desk_step room n key lent = desk_by room n (steps lent) (board_step (board_at room n) lent) (calling_checked room n key)

unfoldable pub step_lent : Classroom → DeskNumber → ℕ → List ℕ → List ℕ
step_lent room n key buffer =
    lent_after (step_buffer (board_at room n) (step_checked (board_at room n) (length buffer)) buffer) buffer (calling_checked room n key)
