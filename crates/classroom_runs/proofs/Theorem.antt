-- For every list of orders from the start, refused ones included: desks do not interfere; demand 3 at every desk, and what a call there
-- is told, from its last accepted opening as from a power-on; every classroom reached is sound.
use Rattle.std.specs.Prelude.{Ok, Err}
use mathlib.Core.Path.{◌≡◌, refl, sym, ap, ◌∙◌, subst}
use mathlib.Core.Bool.{Bool, true, false, not, ◌||◌}
use mathlib.Core.List.{List, [], ◌∷◌, map}
use Prim.Native.Nat.{ℕ, zero, suc, ◌<◌}
use native.Mathlib.Omega.{arith}
use lib.Dec.{eqb}
use lib.ListN.{length, get_or}
use borrow.Author.Tests.{not-false, lt-ltb, eq-eqb}
use Rattle.bits.proofs.Cases.{and_true, clause_at, true_is_false}
use Rattle.refusal.specs.declared.Refusal.TheVariants.{Unsound, NoDesk, DeskState, WrongKey, BadKey}
use Rattle.refusal.specs.Check.{check, checked_number}
use Rattle.refusal.proofs.Check.{accepted_none}
use Rattle.chip.specs.Record.{power_on_chip}
use Rattle.chip.specs.Same.{same_chip}
use Rattle.chip.proofs.Same.{same_chip_law}
use Rattle.request.specs.Record.{power_on_firmware}
use Rattle.model.specs.Call.{history}
use Rattle.rules.specs.Event.{max3420e}
use Rattle.rules.specs.Demand.{Demand3Of}
use Rattle.same.specs.Firmware.{same_firmware}
use Rattle.same.proofs.Equal.{same_firmware_law}
use Rattle.board_record.specs.declared.Board.{Board}
use Rattle.board_record.specs.Record.{power_on_board}
use Rattle.board_runs.specs.Runs.{board_run_to, all_chip_calls}
use Rattle.board_runs.proofs.Theorem.{board_demand3, board_reached_sound}
use Rattle.classroom_record.specs.declared.Desk.{Desk}
use Rattle.classroom_record.specs.declared.DeskNumber.{DeskNumber}
use Rattle.classroom_record.specs.declared.Classroom.{Classroom}
use Rattle.classroom_record.specs.Record.{is_desk, is_open, closed_desk, all_closed, same_board, sound_desk, desk_at, key_in_use, all_sound, sound_classroom}
use Rattle.classroom.specs.Calls.{opening_grounds, opening_checked, closing_checked, opened_desk}
use Rattle.classroom.proofs.Here.{opening_here}
use Rattle.classroom_runs.specs.Orders.{PupilCall, board_call, told_by, Order, opens, closes, calls, told, order_checked, response_of, order_to}
use Rattle.classroom_runs.specs.Orders.{class_to, class_history, sent_to, heard_at, unclosed}
use Rattle.classroom_runs.proofs.Step.{Sixteen, stays_sixteen, desk_by, step_own}
use Rattle.classroom_runs.proofs.Alone.{alone_history, alone}
use Rattle.classroom_runs.proofs.Lived.{board_after, Lived, shut, seated, calls_at, lived, run_sixteen}

-- ---- an accepted opening: the desk was closed, sound, and so at power-on

closed_fresh : (d : Desk) → is_open d ≡ false → sound_desk d ≡ true → d.board ≡ power_on_board
unfolding sound_desk
closed_fresh d closed sound =
    let tests = clause_at (same_board d.board power_on_board ∷ eqb d.opened 0 ∷ eqb d.key 0 ∷ []) (rw closed at sound) in
    let both = and_true (same_chip d.board.chip power_on_chip) (same_firmware d.board.firmware power_on_firmware) (tests 0) in
    let chip = same_chip_law d.board.chip power_on_chip both.0 in
    let firmware = same_firmware_law d.board.firmware power_on_firmware both.1 in
    λ i. record { chip = chip i; firmware = firmware i }

opened_fresh : (room : Classroom) (n : DeskNumber) (key : ℕ) → opening_checked room n key ≡ (Ok tt) → (desk_at room n).board ≡ power_on_board
opened_fresh room n key e =
    let d = desk_at room n in
    let none = accepted_none (opening_grounds n (key_in_use room key) d key) e in
    closed_fresh d (none 1) (not-false (sound_desk d) (none 3))

-- a desk just opened
abbrev pub new_desk : ℕ → Desk
new_desk key = opened_desk key closed_desk

opening_desk : (room : Classroom) (n : DeskNumber) (key : ℕ) → Sixteen room → opening_checked room n key ≡ (Ok tt)
    → desk_at (order_to room (opens n key)) n ≡ new_desk key
opening_desk room n key sixteen e =
    let own = (step_own room (opens n key) n (eq-eqb n.0 n.0 refl) sixteen (opening_here room n key e)).desk in
    own ∙ ap (desk_by (desk_at room n) (opens n key)) e ∙ (λ i. record { board = opened_fresh room n key e i; opened = 1; key = key })

-- ---- non-interference

-- the classroom after some orders and the opening of a desk
abbrev pub opened_after : List Order → DeskNumber → ℕ → Classroom
opened_after before n key = order_to (class_to all_closed before) (opens n key)

-- from an accepted opening until the next closing, a desk answers as if it were alone
pub from_opening : (before os : List Order) (n : DeskNumber) (key : ℕ) → opening_checked (class_to all_closed before) n key ≡ (Ok tt)
    → unclosed (sent_to n os) ≡ true → heard_at n (class_history (opened_after before n key) os) ≡ alone_history (new_desk key) (sent_to n os)
from_opening before os n key e u =
    let room = class_to all_closed before in
    let sixteen = run_sixteen before all_closed refl in
    let desk = opening_desk room n key sixteen e in
    alone n (opening_here room n key e) os (opened_after before n key) (stays_sixteen room (opens n key) sixteen) (ap is_open desk) u
    ∙ ap (λ (d : Desk). alone_history d (sent_to n os)) desk

-- so two lists of orders that send it the same get the same responses there, whatever other desks are sent, before and after
pub non_interference : (before₁ before₂ os₁ os₂ : List Order) (n : DeskNumber) (key : ℕ)
    → opening_checked (class_to all_closed before₁) n key ≡ (Ok tt) → opening_checked (class_to all_closed before₂) n key ≡ (Ok tt)
    → sent_to n os₁ ≡ sent_to n os₂ → unclosed (sent_to n os₁) ≡ true
    → heard_at n (class_history (opened_after before₁ n key) os₁) ≡ heard_at n (class_history (opened_after before₂ n key) os₂)
non_interference before₁ before₂ os₁ os₂ n key e₁ e₂ same u =
    from_opening before₁ os₁ n key e₁ u ∙ ap (alone_history (new_desk key)) same
    ∙ sym (from_opening before₂ os₂ n key e₂ (subst (λ (s : List Order). unclosed s ≡ true) same u))

-- ---- demand 3 at every desk: of the chip calls that the calls since its last accepted opening make

lived_demand3 : {ks : List PupilCall} {d : Desk} → Lived ks d
    → Demand3Of (history max3420e power_on_chip (all_chip_calls power_on_board (map board_call ks))) d.board.chip
unfolding board_run_to
lived_demand3 shut = board_demand3 []
lived_demand3 (seated key ks) = board_demand3 (map board_call ks)

pub desk_demand3 : (os : List Order) (n : DeskNumber) → is_desk n ≡ true
    → Demand3Of (history max3420e power_on_chip (all_chip_calls power_on_board (map board_call (calls_at n os))))
    (desk_at (class_to all_closed os) n).board.chip
desk_demand3 os n here = lived_demand3 (lived os n here)

-- ---- demand 2 at every desk: a call is told what the board tells, after those calls from power-on

lived_board : {ks : List PupilCall} {d : Desk} → Lived ks d → d.board ≡ board_after power_on_board ks
unfolding board_run_to
lived_board shut = refl
lived_board (seated key ks) = refl

pub desk_told : (os : List Order) (n : DeskNumber) (k : PupilCall) → is_desk n ≡ true → is_open (desk_at (class_to all_closed os) n) ≡ true
    → response_of (class_to all_closed os) (calls n (desk_at (class_to all_closed os) n).key k)
    ≡ told (told_by (board_after power_on_board (calls_at n os)) k)
desk_told os n k here w =
    let d = desk_at (class_to all_closed os) n in
    rw (here, w, eq-eqb d.key d.key refl) (ap (λ (b : Board). told (told_by b k)) (lived_board (lived os n here)))

-- ---- every classroom reached is sound

lived_sound : {ks : List PupilCall} {d : Desk} → Lived ks d → sound_desk d ≡ true
unfolding sound_desk same_chip power_on_chip
lived_sound shut = refl
lived_sound (seated key ks) = board_reached_sound (map board_call ks)

all_sound_law : (l : List Desk) → ((i : ℕ) → i < length l → sound_desk (get_or l i closed_desk) ≡ true) → all_sound l ≡ true
all_sound_law [] f = refl
all_sound_law (d ∷ l) f = rw (f zero (omega arith)) (all_sound_law l (λ i h. f (suc i) (omega (arith, h))))

pub classroom_reached_sound : (os : List Order) → sound_classroom (class_to all_closed os) ≡ true
classroom_reached_sound os =
    let room = class_to all_closed os in
    let sixteen = run_sixteen os all_closed refl in
    all_sound_law room.desks (λ i h. lived_sound (lived os (record { 0 = i }) (lt-ltb i 16 (omega (arith, h, sixteen)))))

-- ---- so an open desk can be closed, and a closed one opened with a key that is free; refusal 1 answers no order

desk_sound : (os : List Order) (n : DeskNumber) → is_desk n ≡ true → sound_desk (desk_at (class_to all_closed os) n) ≡ true
desk_sound os n here = lived_sound (lived os n here)

pub closing_accepted : (os : List Order) (n : DeskNumber) → is_desk n ≡ true → is_open (desk_at (class_to all_closed os) n) ≡ true
    → closing_checked (class_to all_closed os) n ≡ (Ok tt)
closing_accepted os n here w = rw (here, desk_sound os n here, w)

pub opening_accepted : (os : List Order) (n : DeskNumber) (key : ℕ) → is_desk n ≡ true → is_open (desk_at (class_to all_closed os) n) ≡ false
    → eqb key 0 ≡ false → key_in_use (class_to all_closed os) key ≡ false → opening_checked (class_to all_closed os) n key ≡ (Ok tt)
opening_accepted os n key here w some free = rw (here, desk_sound os n here, w, some, free)

-- 1 is the last ground of the teacher's orders, and a pupil's have it not
never_last : (a b c d : Bool) → (a ≡ false → d ≡ false) → check ((a, NoDesk) ∷ (b, DeskState) ∷ (c, BadKey) ∷ (d, Unsound) ∷ []) ≡ Err Unsound
    → ⊥
never_last true b c d f e = let z : ◌≡◌ {A = ℕ} 9 1 = ap checked_number e in omega (arith, z)
never_last false true c d f e = let z : ◌≡◌ {A = ℕ} 10 1 = ap checked_number e in omega (arith, z)
never_last false false true d f e = let z : ◌≡◌ {A = ℕ} 12 1 = ap checked_number e in omega (arith, z)
never_last false false false true f e = true_is_false (f refl)
never_last false false false false f e = let z : ◌≡◌ {A = ℕ} 0 1 = ap checked_number e in omega (arith, z)

never_any : (a b c : Bool) → check ((a, NoDesk) ∷ (b, DeskState) ∷ (c, WrongKey) ∷ []) ≡ Err Unsound → ⊥
never_any true b c e = let z : ◌≡◌ {A = ℕ} 9 1 = ap checked_number e in omega (arith, z)
never_any false true c e = let z : ◌≡◌ {A = ℕ} 10 1 = ap checked_number e in omega (arith, z)
never_any false false true e = let z : ◌≡◌ {A = ℕ} 11 1 = ap checked_number e in omega (arith, z)
never_any false false false e = let z : ◌≡◌ {A = ℕ} 0 1 = ap checked_number e in omega (arith, z)

-- where 9 does not apply, the desk is sound
sound_here : (os : List Order) (n : DeskNumber) → not (is_desk n) ≡ false → not (sound_desk (desk_at (class_to all_closed os) n)) ≡ false
sound_here os n here = ap not (desk_sound os n (not-false (is_desk n) here))

pub never_unsound : (os : List Order) (o : Order) → order_checked (class_to all_closed os) o ≡ Err Unsound → ⊥
never_unsound os (opens n key) e =
    let d = desk_at (class_to all_closed os) n in
    never_last (not (is_desk n)) (is_open d) (eqb key 0 || key_in_use (class_to all_closed os) key) (not (sound_desk d)) (sound_here os n) e
never_unsound os (closes n) e =
    let d = desk_at (class_to all_closed os) n in
    never_last (not (is_desk n)) (not (is_open d)) false (not (sound_desk d)) (sound_here os n) e
never_unsound os (calls n key k) e =
    let d = desk_at (class_to all_closed os) n in
    never_any (not (is_desk n)) (not (is_open d)) (not (eqb d.key key)) e
