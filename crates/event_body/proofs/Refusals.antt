-- A body is refused with 5 exactly where no layout fits; and the body of an event is refused as the event is.
use Rattle.std.specs.Prelude.{Err}
use mathlib.Core.Path.{◌≡◌, refl, sym, ap, ◌∙◌}
use mathlib.Core.Logic.{◌↔◌}
use mathlib.Core.Bool.{Bool, true, false, not, cond, ◌&&◌, ◌||◌}
use mathlib.Core.List.{List, [], ◌∷◌}
use Prim.Native.Nat.{ℕ}
use native.Mathlib.Omega.{arith}
use lib.Dec.{eqb, ltb}
use lib.ListN.{length}
use borrow.Author.Tests.{ne_eqb, not-true}
use Rattle.bits.proofs.Cases.{cond_elim, and_true, or_false, true_is_false}
use Rattle.refusal.specs.declared.Refusal.TheVariants.{Unsound, ShortBuffer, UnknownEvent, OutPayload, SetupPayload, BadAddress}
use Rattle.refusal.specs.Check.{check}
use Rattle.refusal.proofs.Check.{check_exactly}
use Rattle.model.specs.declared.Event.{Event}
use Rattle.model.specs.Call.{is_setup, is_out, is_in, is_transaction, event_grounds}
use Rattle.event_body.specs.Body.{signal, body_code, is_signal, is_signal_body, is_pins_body, is_setup_body, is_out_body, is_in_body}
use Rattle.event_body.specs.Body.{is_event_body, event_of, body_of, is_unknown, plain_of}
use Rattle.event_body.proofs.Round.{signal_facts, reads_back}

-- ---- what is refused with 5

-- the code of a body's event is one of ours exactly where a layout fits
code_known : (xs : List ℕ) → is_unknown (event_of xs) ≡ not (is_event_body xs)
unfolding event_of
code_known xs =
    cond_elim Known (is_signal_body xs)
    (λ t. rw t (signal_facts (body_code xs) (and_true (is_signal (body_code xs)) (eqb (length xs) 1) t).0).known)
    (λ a. cond_elim Known (is_pins_body xs) (λ t. rw (a, t))
    (λ b. cond_elim Known (is_setup_body xs) (λ t. rw (a, b, t))
    (λ c. cond_elim Known (is_out_body xs) (λ t. rw (a, b, c, t))
    (λ d. cond_elim Known (is_in_body xs) (λ t. rw (a, b, c, d, t)) (λ e. rw (a, b, c, d, e))))))
  where
    Known : Event → Type 0
    Known x = is_unknown x ≡ not (is_event_body xs)

-- a body is event 0 exactly where no layout fits
pub no_event_law : (xs : List ℕ) → (event_of xs ≡ signal 0) ↔ (is_event_body xs ≡ false)
unfolding event_of
no_event_law xs = (
  (λ p. not-true (is_event_body xs) (sym (code_known xs) ∙ ap is_unknown p)),
  λ h.
      let d = or_false (is_signal_body xs || is_pins_body xs || is_setup_body xs || is_out_body xs) (is_in_body xs) h in
      let c = or_false (is_signal_body xs || is_pins_body xs || is_setup_body xs) (is_out_body xs) d.0 in
      let b = or_false (is_signal_body xs || is_pins_body xs) (is_setup_body xs) c.0 in
      let a = or_false (is_signal_body xs) (is_pins_body xs) b.0 in
      rw (a.0, a.1, b.1, c.1, d.1),
)

-- and exactly there it is refused with 5, whatever the payload and the room
pub refused_5 : (xs : List ℕ) (n room : ℕ)
    → (check (event_grounds true (event_of xs) n room) ≡ Err UnknownEvent) ↔ (is_event_body xs ≡ false)
refused_5 xs n room = (
  (λ r. not-true (is_event_body xs)
      (sym (code_known xs) ∙ ((check_exactly (event_grounds true (event_of xs) n room) refl 2 (omega arith)).0 r).applies)),
  λ h. ap (λ (e : Event). check (event_grounds true e n room)) ((no_event_law xs).1 h),
)

-- ---- a recorded event is refused as it was

-- a test that is made only where another holds
and_where : (t : Bool) (a n : ℕ) → (t && (ltb 127 (cond t a 0) || ltb 15 (cond t n 0))) ≡ (t && (ltb 127 a || ltb 15 n))
and_where true a n = refl
and_where false a n = refl

plain_refused : (sound : Bool) (e : Event) (n room : ℕ)
    → check (event_grounds sound (plain_of e) n room) ≡ check (event_grounds sound e n room)
plain_refused sound e n room =
    ap (λ (t : Bool). check
    ((not sound, Unsound) ∷ (is_in e && ltb room 64, ShortBuffer) ∷ (is_unknown e, UnknownEvent) ∷ (is_out e && ltb 64 n, OutPayload n)
    ∷ (is_setup e && not (eqb n 8), SetupPayload n) ∷ (t, BadAddress) ∷ []))
    (and_where (is_transaction e) e.address e.endpoint.0)

-- an event whose code isn't one of ours is refused as event 0 is
unknown_refused : (sound : Bool) (e : Event) (n room : ℕ) → is_unknown e ≡ true
    → check (event_grounds sound (signal 0) n room) ≡ check (event_grounds sound e n room)
unknown_refused false e n room u = refl
unknown_refused true e n room u = rw (not_in, u)
  where
    not_in : is_in e ≡ false
    not_in = ne_eqb e.code 12 (λ q. true_is_false (sym u ∙ ap (λ (k : ℕ). eqb k 0 || ltb 12 k) q))

pub refused_alike : (sound : Bool) (e : Event) (payload : List ℕ) (n room : ℕ)
    → check (event_grounds sound (event_of (body_of e payload)) n room) ≡ check (event_grounds sound e n room)
refused_alike sound e payload n room =
    ap (λ (x : Event). check (event_grounds sound x n room)) (reads_back e payload)
    ∙ cond_elim (λ (x : Event). check (event_grounds sound x n room) ≡ check (event_grounds sound e n room)) (is_unknown e)
    (unknown_refused sound e n room) (λ _. plain_refused sound e n room)
