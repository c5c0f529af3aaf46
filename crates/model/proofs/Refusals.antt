-- The grounds against a call stand in the order of the paper, and each is given exactly when it applies and none before it does; a
-- sound state is never refusal 1.
use Rattle.std.specs.Prelude.{Ok, Err}
use mathlib.Core.Path.{◌≡◌, refl, sym, ap}
use mathlib.Core.Logic.{◌↔◌}
use mathlib.Core.Bool.{Bool, true}
use mathlib.Core.List.{List, ◌++◌, map}
use Prim.Native.Nat.{ℕ, ◌≤◌, ◌<◌}
use native.Mathlib.Omega.{arith}
use lib.ListN.{length}
use borrow.Author.Tests.{eq-eqb, ltb-false}
use Rattle.bits.proofs.Cases.{true_is_false}
use Rattle.bits.proofs.First.{FirstAt, first_each, Each, ◌⨾◌}
use Rattle.refusal.specs.declared.Refusal.{Refusal}
use Rattle.refusal.specs.declared.Refusal.TheVariants.{Unsound}
use Rattle.refusal.specs.Check.{Checked}
use Rattle.refusal.specs.Check.{ground, check, checked_number}
use Rattle.refusal.proofs.Check.{accepted_none, in_order, refusal_at, check_exactly}
use Rattle.model.specs.declared.Event.{Event}
use Rattle.model.specs.Call.{Call, transfer, event, transfer_grounds, event_grounds, grounds}

-- ---- the grounds of documents 01 and 02

pub grounds_in_order : (sound : Bool) (k : Call) → in_order (grounds sound k) ≡ true
grounds_in_order sound (transfer bytes room) = refl
grounds_in_order sound (event e payload room) = refl

pub refusal_exactly : (sound : Bool) (k : Call) (i : ℕ) → i < length (grounds sound k)
    → (check (grounds sound k) ≡ refusal_at (grounds sound k) i) ↔ FirstAt (grounds sound k) i
refusal_exactly sound k = check_exactly (grounds sound k) (grounds_in_order sound k)

-- the payload of an accepted OUT has at most 64 bytes
pub short_out : (sound : Bool) (e : Event) (n room : ℕ) (gs : List (Bool × Refusal)) → check (event_grounds sound e n room ++ gs) ≡ (Ok tt)
    → e.code ≡ 11 → n ≤ 64
short_out sound e n room gs accepted out =
    ltb-false 64 n (rw (eq-eqb e.code 11 out) at (accepted_none (event_grounds sound e n room ++ gs) accepted 3))

-- ---- refusal 1

abbrev pub NotUnsound : Checked → Type 0
NotUnsound v = v ≡ Err Unsound → ⊥

other : (v : Checked) → (checked_number v ≡ 1 → ⊥) → NotUnsound v
other v n e = n (ap checked_number e)

-- a sound state is never refusal 1, if none of the further grounds is
pub sound_accepted : (k : Call) (gs : List (Bool × Refusal)) → Each NotUnsound (map ground gs) → NotUnsound (check (grounds true k ++ gs))
sound_accepted (transfer bytes room) gs others =
    first_each NotUnsound (map ground (transfer_grounds true (length bytes) room ++ gs)) (Ok tt)
    ((λ t. true_is_false (sym t)) ⨾ (λ t. other _ (λ e. omega arith)) ⨾ (λ t. other _ (λ e. omega arith)) ⨾
    (λ t. other _ (λ e. omega arith)) ⨾ others)
    (other (Ok tt) (λ e. omega arith))
sound_accepted (event v payload room) gs others =
    first_each NotUnsound (map ground (event_grounds true v (length payload) room ++ gs)) (Ok tt)
    ((λ t. true_is_false (sym t)) ⨾ (λ t. other _ (λ e. omega arith)) ⨾ (λ t. other _ (λ e. omega arith)) ⨾
    (λ t. other _ (λ e. omega arith)) ⨾ (λ t. other _ (λ e. omega arith)) ⨾ (λ t. other _ (λ e. omega arith)) ⨾ others)
    (other (Ok tt) (λ e. omega arith))
