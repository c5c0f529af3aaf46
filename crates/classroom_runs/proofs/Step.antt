-- What one order does: to a desk that it does not name, and to the desk that it names.
use Rattle.std.specs.Prelude.{Ok, Err}
use mathlib.Core.Path.{◌≡◌, refl, sym, ◌∙◌, subst}
use mathlib.Core.Bool.{Bool, true, false}
use Prim.Native.Nat.{◌<◌}
use native.Mathlib.Omega.{arith}
use lib.Dec.{eqb}
use lib.ListN.{length, length-set}
use lib.Seq.{get_or-set_same, get_or-set_other}
use borrow.Author.Tests.{eqb-true, eqb-false, ltb-true}
use Rattle.refusal.specs.Check.{Checked}
use Rattle.refusal.specs.Check.{check}
use Rattle.classroom_record.specs.declared.Desk.{Desk}
use Rattle.classroom_record.specs.declared.DeskNumber.{DeskNumber}
use Rattle.classroom_record.specs.declared.Classroom.{Classroom}
use Rattle.classroom_record.specs.Record.{is_desk, is_open, closed_desk, desk_at, key_in_use}
use Rattle.classroom.specs.Calls.{unless_refused_desk}
use Rattle.classroom_runs.specs.Orders.{Order, opens, closes, calls, desk_of, key_of, order_grounds, order_checked, desk_to}
use Rattle.classroom_runs.specs.Orders.{response_by, response_of, order_to, names, is_closing}

-- sixteen desks
abbrev pub Sixteen : Classroom → Type 0
Sixteen room = length room.desks ≡ 16

keeps_length : (room : Classroom) (n : DeskNumber) (d : Desk) (v : Checked) → length (unless_refused_desk room n d v).desks ≡ length room.desks
keeps_length room n d (Ok tt) = length-set room.desks n.0 d
keeps_length room n d (Err r) = refl

pub stays_sixteen : (room : Classroom) (o : Order) → Sixteen room → Sixteen (order_to room o)
stays_sixteen room o h = keeps_length room (desk_of o) (desk_to (desk_at room (desk_of o)) o) (order_checked room o) ∙ h

-- ---- a desk that the order does not name

other_by : (room : Classroom) (m n : DeskNumber) (d : Desk) → eqb n.0 m.0 ≡ false → (v : Checked)
    → desk_at (unless_refused_desk room m d v) n ≡ desk_at room n
other_by room m n d e (Ok tt) = get_or-set_other room.desks m.0 n.0 d closed_desk (eqb-false n.0 m.0 e)
other_by room m n d e (Err r) = refl

pub step_other : (room : Classroom) (o : Order) (n : DeskNumber) → names n o ≡ false → desk_at (order_to room o) n ≡ desk_at room n
step_other room o n e = other_by room (desk_of o) n (desk_to (desk_at room (desk_of o)) o) e (order_checked room o)

-- ---- the desk that it names

-- what is found of an order by its own desk, given whether an open desk has its key
abbrev pub found_by : Bool → Desk → Order → Checked
found_by used d o = check (order_grounds used d o)

abbrev pub desk_by : Desk → Order → Checked → Desk
desk_by d o (Ok tt) = desk_to d o
desk_by d o (Err r) = d

own_by : (room : Classroom) (n : DeskNumber) (o : Order) → n.0 < length room.desks → (v : Checked)
    → desk_at (unless_refused_desk room n (desk_to (desk_at room n) o) v) n ≡ desk_by (desk_at room n) o v
own_by room n o h (Ok tt) = get_or-set_same room.desks n.0 (desk_to (desk_at room n) o) closed_desk h
own_by room n o h (Err r) = refl

pub record Own (room : Classroom) (o : Order) (n : DeskNumber) : Type 0 where
  pub response : response_of room o ≡ response_by (desk_at room n) o (found_by (key_in_use room (key_of o)) (desk_at room n) o)
  pub desk : desk_at (order_to room o) n ≡ desk_by (desk_at room n) o (found_by (key_in_use room (key_of o)) (desk_at room n) o)

own_desk : (room : Classroom) (o : Order) → Sixteen room → is_desk (desk_of o) ≡ true → Own room o (desk_of o)
own_desk room o sixteen here =
    let n = desk_of o in
    let there : n.0 < 16 = ltb-true n.0 16 here in
    let within : n.0 < length room.desks = omega (arith, sixteen, there) in
    record { response = refl; desk = own_by room n o within (order_checked room o) }

pub step_own : (room : Classroom) (o : Order) (n : DeskNumber) → names n o ≡ true → Sixteen room → is_desk n ≡ true → Own room o n
step_own room o n e sixteen =
    let same : (desk_of o).0 ≡ n.0 = sym (eqb-true n.0 (desk_of o).0 e) in
    let desk : desk_of o ≡ n = λ i. record { 0 = same i } in
    subst (λ (m : DeskNumber). is_desk m ≡ true → Own room o m) desk (own_desk room o sixteen)

-- ---- an open desk: keys at other desks do not matter to it, and it stays open until it is closed

pub open_found : (used : Bool) (d : Desk) (o : Order) → is_open d ≡ true → found_by used d o ≡ found_by false d o
open_found used d (opens n key) w = rw w
open_found used d (closes n) w = refl
open_found used d (calls n key k) w = refl

pub stays_open : (d : Desk) (o : Order) → is_open d ≡ true → is_closing o ≡ false → (v : Checked) → is_open (desk_by d o v) ≡ true
stays_open d o w u (Err r) = w
stays_open d (opens n key) w u (Ok tt) = refl
stays_open d (closes n) w u (Ok tt) = sym u
stays_open d (calls n key k) w u (Ok tt) = w
