-- The keys of open desks differ, and none is 0.
use Rattle.std.specs.Prelude.{Ok, Err}
use mathlib.Core.Path.{◌≡◌, refl, sym, ap, ◌∙◌, subst}
use mathlib.Core.Bool.{Bool, true, false, ◌&&◌}
use mathlib.Core.List.{List, [], ◌∷◌}
use Prim.Native.Nat.{ℕ, zero, suc, ◌<◌}
use native.Mathlib.Omega.{arith}
use lib.Dec.{eqb}
use lib.ListN.{length, get_or}
use borrow.Author.Tests.{eqb-true, eq-eqb, ltb-true}
use Rattle.bits.proofs.Cases.{true_is_false, or_false}
use Rattle.refusal.specs.Check.{Checked}
use Rattle.refusal.proofs.Check.{accepted_none}
use Rattle.classroom_record.specs.declared.Desk.{Desk}
use Rattle.classroom_record.specs.declared.DeskNumber.{DeskNumber}
use Rattle.classroom_record.specs.declared.Classroom.{Classroom}
use Rattle.classroom_record.specs.Record.{is_desk, is_open, closed_desk, all_closed, desk_at, key_among, key_in_use}
use Rattle.classroom.specs.Calls.{opening_grounds}
use Rattle.classroom_runs.specs.Orders.{Order, opens, closes, calls, key_of, order_to, class_to, names}
use Rattle.classroom_runs.proofs.Step.{Sixteen, stays_sixteen, step_other, found_by, desk_by, step_own}
use Rattle.classroom_runs.proofs.Lived.{all_closed_law}

-- a key that is not in use is no open desk's
not_among : (l : List Desk) (i : ℕ) (key : ℕ) → key_among l key ≡ false → i < length l → is_open (get_or l i closed_desk) ≡ true
    → (get_or l i closed_desk).key ≡ key → ⊥
not_among [] i key e h w same = omega (arith, h)
not_among (d ∷ l) zero key e h w same =
    let first = (or_false (is_open d && eqb d.key key) (key_among l key) e).0 in
    true_is_false (rw (w, eq-eqb d.key key same) at first)
not_among (d ∷ l) (suc i) key e h w same =
    not_among l i key (or_false (is_open d && eqb d.key key) (key_among l key) e).1 (omega (arith, h)) w same

-- how an open desk has come by its key: it had it before the order, or the order opened it
data Came (room : Classroom) (o : Order) (n : DeskNumber) (key : ℕ) : Type 0 where
  had : is_open (desk_at room n) ≡ true → (desk_at room n).key ≡ key → Came room o n key
  given : names n o ≡ true → eqb key 0 ≡ false → key_in_use room key ≡ false → Came room o n key

came_by : (room : Classroom) (o : Order) (n : DeskNumber) → names n o ≡ true → (v : Checked)
    → found_by (key_in_use room (key_of o)) (desk_at room n) o ≡ v → is_open (desk_by (desk_at room n) o v) ≡ true
    → Came room o n (desk_by (desk_at room n) o v).key
came_by room o n e (Err r) f w = had w refl
came_by room (opens m key) n e (Ok tt) f w =
    let bad = or_false (eqb key 0) (key_in_use room key) (accepted_none (opening_grounds m (key_in_use room key) (desk_at room n) key) f 2) in
    given e bad.0 bad.1
came_by room (closes m) n e (Ok tt) f w = true_is_false (sym w)
came_by room (calls m key k) n e (Ok tt) f w = had w refl

module _ (room : Classroom) (o : Order) (n : DeskNumber) (here : is_desk n ≡ true) (sixteen : Sixteen room) where
  abbrev After : Desk
  After = desk_at (order_to room o) n

  came_at : (t : Bool) → names n o ≡ t → is_open After ≡ true → Came room o n After.key
  came_at true e w =
      let own = (step_own room o n e sixteen here).desk in
      let v = found_by (key_in_use room (key_of o)) (desk_at room n) o in
      subst (Came room o n) (sym (ap (λ (d : Desk). d.key) own)) (came_by room o n e v refl (sym (ap is_open own) ∙ w))
  came_at false e w =
      let other = step_other room o n e in
      had (sym (ap is_open other) ∙ w) (sym (ap (λ (d : Desk). d.key) other))

  came : is_open After ≡ true → Came room o n After.key
  came = came_at (names n o) refl

-- ---- every classroom

pub record Keys (room : Classroom) : Type 0 where
  pub none_zero : (n : DeskNumber) → is_desk n ≡ true → is_open (desk_at room n) ≡ true → (desk_at room n).key ≡ 0 → ⊥
  pub differ : (m n : DeskNumber) → is_desk m ≡ true → is_desk n ≡ true → is_open (desk_at room m) ≡ true → is_open (desk_at room n) ≡ true
      → (desk_at room m).key ≡ (desk_at room n).key → m.0 ≡ n.0

within : (room : Classroom) (n : DeskNumber) → Sixteen room → is_desk n ≡ true → n.0 < length room.desks
within room n sixteen here = let there : n.0 < 16 = ltb-true n.0 16 here in omega (arith, sixteen, there)

-- a key that is not in use differs from that of a desk that had its own
apart : (room : Classroom) (n : DeskNumber) (key : ℕ) → is_desk n ≡ true → Sixteen room → key_in_use room key ≡ false
    → is_open (desk_at room n) ≡ true → (desk_at room n).key ≡ key → ⊥
apart room n key here sixteen free w same = not_among room.desks n.0 key free (within room n sixteen here) w same

differ_by : {room : Classroom} {o : Order} {m n : DeskNumber} {j k : ℕ} → Keys room → Sixteen room → is_desk m ≡ true → is_desk n ≡ true
    → Came room o m j → Came room o n k → j ≡ k → m.0 ≡ n.0
differ_by {room} {o} {m} {n} {j} {k} keys sixteen here there (had w p) (had x q) same = keys.differ m n here there w x (p ∙ same ∙ sym q)
differ_by {room} {o} {m} {n} {j} {k} keys sixteen here there (had w p) (given e z free) same =
    absurd (apart room m k here sixteen free w (p ∙ same))
differ_by {room} {o} {m} {n} {j} {k} keys sixteen here there (given e z free) (had x q) same =
    absurd (apart room n j there sixteen free x (q ∙ sym same))
differ_by {room} {o} {m} {n} {j} {k} keys sixteen here there (given e z free) (given f y used) same =
    eqb-true m.0 _ e ∙ sym (eqb-true n.0 _ f)

zero_by : {room : Classroom} {o : Order} {n : DeskNumber} {k : ℕ} → Keys room → is_desk n ≡ true → Came room o n k → k ≡ 0 → ⊥
zero_by {room} {o} {n} {k} keys here (had w p) none = keys.none_zero n here w (p ∙ none)
zero_by {room} {o} {n} {k} keys here (given e z free) none = true_is_false (sym (eq-eqb k 0 none) ∙ z)

pub keys_step : (room : Classroom) (o : Order) → Sixteen room → Keys room → Keys (order_to room o)
keys_step room o sixteen keys = record {
  none_zero = λ n here w none. zero_by keys here (came room o n here sixteen w) none;
  differ = λ m n here there w x same. differ_by keys sixteen here there (came room o m here sixteen w) (came room o n there sixteen x) same;
}

keys_run : (os : List Order) (room : Classroom) → Sixteen room → Keys room → Keys (class_to room os)
unfolding class_to
keys_run [] room sixteen keys = keys
keys_run (o ∷ os) room sixteen keys = keys_run os (order_to room o) (stays_sixteen room o sixteen) (keys_step room o sixteen keys)

-- no desk is open at the start
start_shut : (n : DeskNumber) → is_desk n ≡ true → is_open (desk_at all_closed n) ≡ true → ⊥
start_shut n here w = true_is_false (sym w ∙ ap is_open (all_closed_law n here))

pub keys_differ : (os : List Order) → Keys (class_to all_closed os)
keys_differ os = keys_run os all_closed refl (record {
  none_zero = λ n here w none. start_shut n here w;
  differ = λ m n here there w x same. absurd (start_shut m here w);
})
