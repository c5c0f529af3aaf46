-- Where 9 applies, and where it does not: it is the first ground of every call.
use Rattle.std.specs.Prelude.{Ok, Err}
use mathlib.Core.Path.{◌≡◌, sym, ◌∙◌}
use mathlib.Core.Bool.{true}
use Prim.Native.Nat.{ℕ, zero, ◌≤◌, ◌<◌}
use native.Mathlib.Omega.{arith}
use lib.ListN.{length, get_or}
use borrow.Author.Tests.{not-false, lt-ltb, le-ltb}
use Rattle.refusal.specs.declared.Refusal.TheVariants.{NoDesk}
use Rattle.refusal.specs.Check.{Checked}
use Rattle.refusal.specs.Check.{check}
use Rattle.refusal.proofs.Check.{accepted_none}
use Rattle.classroom_record.specs.declared.Desk.{Desk}
use Rattle.classroom_record.specs.declared.DeskNumber.{DeskNumber}
use Rattle.classroom_record.specs.declared.Classroom.{Classroom}
use Rattle.classroom_record.specs.Record.{is_desk, closed_desk, desk_at, key_in_use}
use Rattle.classroom_record.proofs.Place.{get_or_within}
use Rattle.classroom.specs.Calls.{opening_grounds, closing_grounds, key_grounds, calling_grounds, opening_checked, closing_checked, calling_checked}

pub opening_here : (room : Classroom) (n : DeskNumber) (key : ℕ) → opening_checked room n key ≡ (Ok tt) → is_desk n ≡ true
opening_here room n key e = not-false (is_desk n) (accepted_none (opening_grounds n (key_in_use room key) (desk_at room n) key) e zero)

pub closing_here : (room : Classroom) (n : DeskNumber) → closing_checked room n ≡ (Ok tt) → is_desk n ≡ true
closing_here room n e = not-false (is_desk n) (accepted_none (closing_grounds n (desk_at room n)) e zero)

pub calling_here : (room : Classroom) (n : DeskNumber) (key : ℕ) → calling_checked room n key ≡ (Ok tt) → is_desk n ≡ true
calling_here room n key e = not-false (is_desk n) (accepted_none (calling_grounds n (desk_at room n) key) e zero)

-- ---- a pupil's call: by the number of the desk, and by what the desk has

pub calling_nowhere : (room : Classroom) (n : DeskNumber) (key : ℕ) → 16 ≤ n.0 → calling_checked room n key ≡ Err NoDesk
calling_nowhere room n key h = rw (le-ltb n.0 16 h)

-- a desk that there is, read whatever stands for those past the end
pub desk_read : (room : Classroom) (n : DeskNumber) → length room.desks ≡ 16 → n.0 < 16 → (e : Desk) → get_or room.desks n.0 e ≡ desk_at room n
desk_read room n sixteen h e = get_or_within room.desks n.0 e closed_desk (omega (arith, sixteen, h))

pub calling_by : (room : Classroom) (n : DeskNumber) → length room.desks ≡ 16 → n.0 < 16 → (e : Desk) (key : ℕ) {v w : Checked}
    → v ≡ check (key_grounds (get_or room.desks n.0 e).opened (get_or room.desks n.0 e).key key) → v ≡ w
    → (calling_checked room n key ≡ w) × (get_or room.desks n.0 e ≡ desk_at room n)
calling_by room n sixteen h e key f g =
    let read = desk_read room n sixteen h e in
    (rw (lt-ltb n.0 16 h, ← read) (sym f ∙ g), read)
