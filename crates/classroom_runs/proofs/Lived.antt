-- What a desk holds: a closed desk's records, or those that the calls since its last accepted opening make of the records of power-on.
use Rattle.std.specs.Prelude.{Ok, Err}
use mathlib.Core.Path.{◌≡◌, refl, sym, subst}
use mathlib.Core.Bool.{Bool, true, false, cond}
use mathlib.Core.List.{List, [], ◌∷◌, ◌++◌, map}
use Prim.Native.Nat.{ℕ}
use lib.ListN.{get_or-replicate}
use borrow.Author.Tests.{ltb-true}
use Rattle.bits.proofs.Cases.{true_is_false}
use Rattle.refusal.specs.Check.{Checked}
use Rattle.refusal.proofs.Check.{accepted_none}
use Rattle.board_record.specs.declared.Board.{Board}
use Rattle.board_record.specs.Record.{power_on_board}
use Rattle.board.specs.Board.{board_to}
use Rattle.board_runs.specs.Runs.{board_run_to}
use Rattle.classroom_record.specs.declared.Desk.{Desk}
use Rattle.classroom_record.specs.declared.DeskNumber.{DeskNumber}
use Rattle.classroom_record.specs.declared.Classroom.{Classroom}
use Rattle.classroom_record.specs.Record.{is_desk, closed_desk, all_closed, desk_at, key_in_use}
use Rattle.classroom.specs.Calls.{opening_grounds, calling_grounds}
use Rattle.classroom_runs.specs.Orders.{PupilCall, board_call, Order, opens, closes, calls, key_of, response_by, response_of, order_to}
use Rattle.classroom_runs.specs.Orders.{class_to, class_history, names, heard_at, note_order, calls_since}
use Rattle.classroom_runs.proofs.Step.{Sixteen, stays_sixteen, step_other, found_by, desk_by, step_own}

-- the board after a pupil's calls
abbrev pub board_after : Board → List PupilCall → Board
board_after b ks = board_run_to b (map board_call ks)

one_more : (b : Board) (ks : List PupilCall) (k : PupilCall) → board_after b (ks ++ (k ∷ [])) ≡ board_to (board_after b ks) (board_call k)
unfolding board_run_to
one_more b [] k = refl
one_more b (x ∷ ks) k = one_more (board_to b (board_call x)) ks k

pub data Lived : List PupilCall → Desk → Type 0 where
  shut : Lived [] closed_desk
  seated : (key : ℕ) (ks : List PupilCall) → Lived ks (record { board = board_after power_on_board ks; opened = 1; key = key })

lived_step : {ks : List PupilCall} {d : Desk} → Lived ks d → (o : Order) (used : Bool) (v : Checked) → found_by used d o ≡ v
    → Lived (note_order ks o (response_by d o v)) (desk_by d o v)
unfolding board_run_to
lived_step l o used (Err r) e = l
lived_step shut (opens n key) used (Ok tt) e = seated key []
lived_step shut (closes n) used (Ok tt) e = shut
lived_step shut (calls n key k) used (Ok tt) e = true_is_false (accepted_none (calling_grounds n closed_desk key) e 1)
lived_step (seated key ks) (opens n new) used (Ok tt) e =
    true_is_false (accepted_none (opening_grounds n used (record { board = board_after power_on_board ks; opened = 1; key = key }) new) e 1)
lived_step (seated key ks) (closes n) used (Ok tt) e = shut
lived_step (seated key ks) (calls n given k) used (Ok tt) e =
    subst (λ (b : Board). Lived (ks ++ (k ∷ [])) (record { board = b; opened = 1; key = key })) (one_more power_on_board ks k)
    (seated key (ks ++ (k ∷ [])))

-- ---- every list of orders

abbrev Onward : DeskNumber → List Order → Type 0
Onward n os = (room : Classroom) (ks : List PupilCall) → Sixteen room → Lived ks (desk_at room n)
    → Lived (calls_since ks (heard_at n (class_history room os))) (desk_at (class_to room os) n)

onward_step : (n : DeskNumber) → is_desk n ≡ true → (o : Order) (os : List Order) → Onward n os → (room : Classroom) (ks : List PupilCall)
    → Sixteen room → Lived ks (desk_at room n) → (t : Bool) → names n o ≡ t
    → Lived
    (calls_since ks
    (cond t (record { order = o; response = response_of room o } ∷ heard_at n (class_history (order_to room o) os))
    (heard_at n (class_history (order_to room o) os))))
    (desk_at (class_to (order_to room o) os) n)
unfolding calls_since
onward_step n here o os onward room ks sixteen l true e =
    let d = desk_at room n in
    let own = step_own room o n e sixteen here in
    let used = key_in_use room (key_of o) in
    let lived = lived_step l o used (found_by used d o) refl in
    onward (order_to room o) (note_order ks o (response_of room o)) (stays_sixteen room o sixteen)
    (subst (λ (x : Desk). Lived (note_order ks o (response_of room o)) x) (sym own.desk) (rw own.response lived))
onward_step n here o os onward room ks sixteen l false e =
    onward (order_to room o) ks (stays_sixteen room o sixteen) (subst (Lived ks) (sym (step_other room o n e)) l)

lived_run : (n : DeskNumber) → is_desk n ≡ true → (os : List Order) → Onward n os
unfolding class_to class_history calls_since
lived_run n here [] room ks sixteen l = l
lived_run n here (o ∷ os) room ks sixteen l = onward_step n here o os (lived_run n here os) room ks sixteen l (names n o) refl

-- ---- from the start

pub all_closed_law : (n : DeskNumber) → is_desk n ≡ true → desk_at all_closed n ≡ closed_desk
all_closed_law n here = get_or-replicate 16 n.0 closed_desk closed_desk (ltb-true n.0 16 here)

-- the calls that reached the board of desk n since its last accepted opening
abbrev pub calls_at : DeskNumber → List Order → List PupilCall
calls_at n os = calls_since [] (heard_at n (class_history all_closed os))

pub lived : (os : List Order) (n : DeskNumber) → is_desk n ≡ true → Lived (calls_at n os) (desk_at (class_to all_closed os) n)
lived os n here = lived_run n here os all_closed [] refl (subst (Lived []) (sym (all_closed_law n here)) shut)

pub run_sixteen : (os : List Order) (room : Classroom) → Sixteen room → Sixteen (class_to room os)
unfolding class_to
run_sixteen [] room sixteen = sixteen
run_sixteen (o ∷ os) room sixteen = run_sixteen os (order_to room o) (stays_sixteen room o sixteen)
