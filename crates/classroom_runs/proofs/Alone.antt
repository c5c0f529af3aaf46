-- An open desk answers as if it were alone in the classroom, until it is closed.
use mathlib.Core.Path.{◌≡◌, refl, ap, ◌∙◌}
use mathlib.Core.Bool.{Bool, true, false, not, cond}
use mathlib.Core.List.{List, [], ◌∷◌}
use borrow.Author.Tests.{not-true}
use Rattle.bits.proofs.Cases.{and_true}
use Rattle.classroom_record.specs.declared.Desk.{Desk}
use Rattle.classroom_record.specs.declared.DeskNumber.{DeskNumber}
use Rattle.classroom_record.specs.declared.Classroom.{Classroom}
use Rattle.classroom_record.specs.Record.{is_desk, is_open, desk_at, key_in_use}
use Rattle.classroom_runs.specs.Orders.{Order, key_of, response_by, response_of, order_to, Heard, class_history, names, sent_to, heard_at}
use Rattle.classroom_runs.specs.Orders.{is_closing, unclosed}
use Rattle.classroom_runs.proofs.Step.{Sixteen, stays_sixteen, step_other, found_by, desk_by, step_own, open_found, stays_open}

-- ---- a desk alone: no other desk has a key

unfoldable pub alone_history : Desk → List Order → List Heard
alone_history d [] = []
alone_history d (o ∷ os) = record { order = o; response = response_by d o (found_by false d o) } ∷ alone_history (desk_by d o (found_by false d o)) os

abbrev Alone : DeskNumber → List Order → Type 0
Alone n os = (room : Classroom) → Sixteen room → is_open (desk_at room n) ≡ true → unclosed (sent_to n os) ≡ true
    → heard_at n (class_history room os) ≡ alone_history (desk_at room n) (sent_to n os)

alone_step : (n : DeskNumber) → is_desk n ≡ true → (o : Order) (os : List Order) → Alone n os → (room : Classroom) → Sixteen room
    → is_open (desk_at room n) ≡ true → (t : Bool) → names n o ≡ t → unclosed (cond t (o ∷ sent_to n os) (sent_to n os)) ≡ true
    → cond t (record { order = o; response = response_of room o } ∷ heard_at n (class_history (order_to room o) os))
    (heard_at n (class_history (order_to room o) os))
    ≡ alone_history (desk_at room n) (cond t (o ∷ sent_to n os) (sent_to n os))
unfolding alone_history
alone_step n here o os rest room sixteen w true e u =
    let d = desk_at room n in
    let own = step_own room o n e sixteen here in
    let same = open_found (key_in_use room (key_of o)) d o w in
    let response : response_of room o ≡ response_by d o (found_by false d o) = own.response ∙ ap (response_by d o) same in
    let desk : desk_at (order_to room o) n ≡ desk_by d o (found_by false d o) = own.desk ∙ ap (desk_by d o) same in
    let more = and_true (not (is_closing o)) (unclosed (sent_to n os)) u in
    let opened : is_open (desk_at (order_to room o) n) ≡ true
    = ap is_open desk ∙ stays_open d o w (not-true (is_closing o) more.0) (found_by false d o) in
    let next = rest (order_to room o) (stays_sixteen room o sixteen) opened more.1 in
    λ i. record { order = o; response = response i } ∷ (next ∙ ap (λ (x : Desk). alone_history x (sent_to n os)) desk) i
alone_step n here o os rest room sixteen w false e u =
    let other = step_other room o n e in
    rest (order_to room o) (stays_sixteen room o sixteen) (ap is_open other ∙ w) u ∙ ap (λ (x : Desk). alone_history x (sent_to n os)) other

pub alone : (n : DeskNumber) → is_desk n ≡ true → (os : List Order) → Alone n os
unfolding class_history alone_history
alone n here [] room sixteen w u = refl
alone n here (o ∷ os) room sixteen w u = alone_step n here o os (alone n here os) room sixteen w (names n o) refl u
