-- What is known of an event that is not refused: none of the grounds applies.
use Rattle.std.specs.Prelude.{Ok}
use mathlib.Core.Path.{◌≡◌}
use mathlib.Core.Bool.{Bool, true}
use mathlib.Core.List.{[]}
use Prim.Native.Nat.{ℕ, ◌≤◌}
use native.Mathlib.Omega.{arith}
use lib.Dec.{eqb, ltb}
use borrow.Author.Tests.{eq-eqb, eqb-true, eqb-false, ltb-false, not-false}
use Rattle.bits.proofs.Cases.{or_false}
use Rattle.refusal.specs.Check.{check}
use Rattle.refusal.proofs.Check.{accepted_none}
use Rattle.model.specs.declared.Event.{Event}
use Rattle.model.specs.Call.{event_grounds}
use Rattle.model.proofs.Refusals.{short_out}

module _ (sound : Bool) (e : Event) (n room : ℕ) (accepted : check (event_grounds sound e n room) ≡ (Ok tt)) where
  pub accepted_sound : sound ≡ true
  accepted_sound = not-false sound (accepted_none (event_grounds sound e n room) accepted 0)

  -- an IN has room for a packet
  pub accepted_room : e.code ≡ 12 → 64 ≤ room
  accepted_room is = ltb-false room 64 (rw (eq-eqb e.code 12 is) at (accepted_none (event_grounds sound e n room) accepted 1))

  pub accepted_code : (1 ≤ e.code) × (e.code ≤ 12)
  accepted_code =
      let both = or_false (eqb e.code 0) (ltb 12 e.code) (accepted_none (event_grounds sound e n room) accepted 2) in
      let most = ltb-false 12 e.code both.1 in
      let some = eqb-false e.code 0 both.0 in
      (omega (arith, some), most)

  pub accepted_out : e.code ≡ 11 → n ≤ 64
  accepted_out is = short_out sound e n room [] accepted is

  pub accepted_setup : e.code ≡ 10 → n ≡ 8
  accepted_setup is =
      eqb-true n 8
      (not-false (eqb n 8) (rw (eq-eqb e.code 10 is) at (accepted_none (event_grounds sound e n room) accepted 4)))
