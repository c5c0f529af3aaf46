-- Every ground of refusal is given exactly when it applies and none before it does: 9, 10, 11, 12, then 1, then the call's own.
use Rattle.std.specs.Prelude.{Err}
use mathlib.Core.Path.{◌≡◌, refl}
use mathlib.Core.Logic.{◌↔◌}
use mathlib.Core.Bool.{Bool, true, false, cond, ◌&&◌}
use mathlib.Core.List.{List, [], ◌++◌}
use Prim.Native.Nat.{ℕ, ◌<◌}
use lib.ListN.{length}
use Rattle.bits.proofs.First.{FirstAt}
use Rattle.refusal.specs.declared.Refusal.{Refusal}
use Rattle.refusal.specs.declared.Refusal.TheVariants.{Unsound}
use Rattle.refusal.specs.Check.{Checked}
use Rattle.refusal.specs.Check.{check}
use Rattle.refusal.proofs.Check.{in_order, refusal_at, check_exactly}
use Rattle.chip.specs.Sound.{sound_chip}
use Rattle.request.specs.Record.{sound_firmware}
use Rattle.model.specs.Call.{Call, transfer, event, grounds}
use Rattle.board_record.specs.declared.Board.{Board}
use Rattle.board_record.specs.Record.{sound_board}
use Rattle.board.specs.Board.{BoardCall, on_chip, steps, board_checked, step_grounds, step_checked}
use Rattle.classroom_record.specs.declared.Desk.{Desk}
use Rattle.classroom_record.specs.declared.DeskNumber.{DeskNumber}
use Rattle.classroom_record.specs.declared.Classroom.{Classroom}
use Rattle.classroom_record.specs.Record.{desk_at, key_in_use}
use Rattle.classroom.specs.Calls.{opening_grounds, closing_grounds, calling_grounds, opening_checked, closing_checked, calling_checked, board_at}
use Rattle.classroom.proofs.Append.{then_found, check_append}

-- ---- the teacher's calls

pub opening_exactly : (room : Classroom) (n : DeskNumber) (key i : ℕ) → i < 4
    → (opening_checked room n key ≡ refusal_at (opening_grounds n (key_in_use room key) (desk_at room n) key) i)
    ↔ FirstAt (opening_grounds n (key_in_use room key) (desk_at room n) key) i
opening_exactly room n key i = check_exactly (opening_grounds n (key_in_use room key) (desk_at room n) key) refl i

pub closing_exactly : (room : Classroom) (n : DeskNumber) (i : ℕ) → i < 3
    → (closing_checked room n ≡ refusal_at (closing_grounds n (desk_at room n)) i) ↔ FirstAt (closing_grounds n (desk_at room n)) i
closing_exactly room n i = check_exactly (closing_grounds n (desk_at room n)) refl i

-- ---- a pupil's: the classroom's grounds, then the board's

-- of a sound board or not, the chip's grounds
abbrev pub board_grounds : Board → BoardCall → List (Bool × Refusal)
board_grounds b (on_chip k) = grounds (sound_board b) k
board_grounds b (steps lent) = step_grounds b lent

abbrev pub pupil_grounds : DeskNumber → Desk → ℕ → BoardCall → List (Bool × Refusal)
pupil_grounds n d key k = calling_grounds n d key ++ board_grounds d.board k

pub pupil_in_order : (n : DeskNumber) (d : Desk) (key : ℕ) (k : BoardCall) → in_order (pupil_grounds n d key k) ≡ true
pupil_in_order n d key (on_chip (transfer bytes lent)) = refl
pupil_in_order n d key (on_chip (event e payload lent)) = refl
pupil_in_order n d key (steps lent) = refl

-- what the board finds is by its grounds
abbrev pub board_found : Board → BoardCall → Checked
board_found b (on_chip k) = board_checked b k
board_found b (steps lent) = step_checked b lent

found_by_law : (s t : Bool) (k : Call) → cond t (check (grounds s k ++ [])) (Err Unsound) ≡ check (grounds (s && t) k)
found_by_law true true (transfer bytes lent) = refl
found_by_law true true (event e payload lent) = refl
found_by_law false true (transfer bytes lent) = refl
found_by_law false true (event e payload lent) = refl
found_by_law true false (transfer bytes lent) = refl
found_by_law true false (event e payload lent) = refl
found_by_law false false (transfer bytes lent) = refl
found_by_law false false (event e payload lent) = refl

board_found_law : (b : Board) (k : BoardCall) → board_found b k ≡ check (board_grounds b k)
board_found_law b (on_chip k) = found_by_law (sound_chip b.chip) (sound_firmware b.firmware) k
board_found_law b (steps lent) = refl

-- a call that the classroom accepts is refused as the board refuses it
abbrev pub pupil_checked : Classroom → DeskNumber → ℕ → BoardCall → Checked
pupil_checked room n key k = then_found (calling_checked room n key) (board_found (board_at room n) k)

pub pupil_check : (room : Classroom) (n : DeskNumber) (key : ℕ) (k : BoardCall)
    → pupil_checked room n key k ≡ check (pupil_grounds n (desk_at room n) key k)
pupil_check room n key k =
    rw (board_found_law (board_at room n) k) (check_append (calling_grounds n (desk_at room n) key) (board_grounds (board_at room n) k))

pub pupil_exactly : (room : Classroom) (n : DeskNumber) (key : ℕ) (k : BoardCall) (i : ℕ)
    → i < length (pupil_grounds n (desk_at room n) key k)
    → (check (pupil_grounds n (desk_at room n) key k) ≡ refusal_at (pupil_grounds n (desk_at room n) key k) i)
    ↔ FirstAt (pupil_grounds n (desk_at room n) key k) i
pupil_exactly room n key k = check_exactly (pupil_grounds n (desk_at room n) key k) (pupil_in_order n (desk_at room n) key k)
