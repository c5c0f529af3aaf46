-- Laws of the answer: the number of a refusal, that a record which is reached from power-on is sound, and that at most 64
-- bytes are sent. Each holds of every refusal and of every decision.
use Rattle.std.specs.Prelude.{Result, Ok, Err}
use mathlib.Core.Path.{◌≡◌, ◌∙◌, refl, sym, ap, subst}
use mathlib.Core.Logic.{◌↔◌}
use mathlib.Core.Bool.{true, cond}
use mathlib.Core.List.{List, [], ◌∷◌}
use Prim.Native.Nat.{ℕ, ◌≤◌, ◌<◌, zero-le}
use native.Mathlib.Nat.{le_trans, min-le_right}
use borrow.Author.Tests.{eqb-true, ltb-false}
use lib.Dec.{eqb}
use lib.ListN.{length}
use Rattle.refusal.specs.declared.Refusal.{Refusal}
use Rattle.refusal.specs.Check.{Checked, tells}
use Rattle.refusal.specs.Check.{unless_refused}
use Rattle.refusal.proofs.Check.{accepted_none, refusal_at, check_exactly}
use Rattle.descriptor.proofs.Tables.{bytes_fit}
use Rattle.descriptor.specs.Send.{count}
use Rattle.descriptor.specs.Table.{data_bytes}
use Rattle.request.specs.Record.{sound_firmware, power_on_firmware}
use Rattle.request.specs.Request.{request_of, decision_of}
use Rattle.request.specs.declared.Firmware.{Firmware}
use Rattle.request.specs.declared.Request.{Request}
use Rattle.request.specs.declared.Decision.{Decision}
use Rattle.request.specs.declared.Decision.TheVariants.{Stall, Send, Accept}
use Rattle.bits.proofs.First.{none, ◌⨾◌, first_each, first_map, FirstAt}
use Rattle.request.proofs.Sound.{next_of, decision_sound}
use Rattle.firmware.specs.Answer.{Handled, counted, decision_served, served_of, refused_with, request_grounds, request_checked}
use Rattle.firmware.specs.Answer.{checked_handled, handled, request_kind, request_count, decision_kind, decision_count}
use Rattle.firmware.specs.Answer.{Numbers}
use Rattle.firmware.specs.Run.{Question, record_after}
use Rattle.firmware.specs.declared.RequestAnswer.{RequestAnswer}
use Rattle.firmware.specs.declared.RequestReply.{RequestReply}

-- ---- what an answer can be

-- what holds of every refusal, and of the answer to the request, holds of the answer to the call
pub answer_each : (P : Handled → Type 0) (setup : List ℕ) (f : Firmware) (reply : List ℕ) → ((r : Refusal) → P (refused_with r f reply))
    → P (served_of (request_of setup) f reply) → P (handled setup f reply)
unfolding handled
answer_each P setup f reply refusal served = each (request_checked setup f (length reply))
  where
    each : (v : Checked) → P (checked_handled setup f reply v)
    each (Ok tt) = served
    each (Err r) = refusal r

-- what holds of STALL, of ACK only and of up to 64 bytes holds of the reply to the request
pub served_each : (P : Result RequestReply Refusal → Type 0) → P (Ok RequestReply.Stall) → P (Ok RequestReply.Ack) → ((n : ℕ) → n ≤ 64 → P (Ok (RequestReply.Data n)))
    → (q : Request) (f : Firmware) (reply : List ℕ) → P (served_of q f reply).answer.reply
unfolding served_of
served_each P stall ack some q f reply = each (decision_of q f)
  where
    each : (d : Decision) → P (decision_served d q.wlength f reply).answer.reply
    each Stall = stall
    each (Send d) =
        let n = count (data_bytes d) q.wlength in
        first_each (λ (r : RequestReply). P (Ok r)) ((eqb n 0, RequestReply.Ack) ∷ []) (RequestReply.Data n) ((λ t. ack) ⨾ none)
        (some n (le_trans (min-le_right q.wlength (length (data_bytes d))) (bytes_fit d)))
    each (Accept next e) = ack

-- ---- the numbers of a reply

kind_counted : (n : ℕ) → request_kind (Ok (counted n)) ≡ cond (eqb n 0) 2 3
kind_counted n = first_map (λ (r : RequestReply). request_kind (Ok r)) ((eqb n 0, RequestReply.Ack) ∷ []) (RequestReply.Data n)

-- ACK only counts no bytes
count_counted : (n : ℕ) → request_count (Ok (counted n)) ≡ n
count_counted n =
    first_each (λ (r : RequestReply). request_count (Ok r) ≡ n) ((eqb n 0, RequestReply.Ack) ∷ []) (RequestReply.Data n)
    ((λ t. sym (eqb-true n 0 t)) ⨾ none) refl

decision_kind_law : (d : Decision) (w : ℕ) (f : Firmware) (reply : List ℕ) → request_kind (decision_served d w f reply).answer.reply
    ≡ decision_kind d w
decision_kind_law Stall w f reply = refl
decision_kind_law (Send d) w f reply = kind_counted (count (data_bytes d) w)
decision_kind_law (Accept next e) w f reply = refl

decision_count_law : (d : Decision) (w : ℕ) (f : Firmware) (reply : List ℕ) → request_count (decision_served d w f reply).answer.reply
    ≡ decision_count d w
decision_count_law Stall w f reply = refl
decision_count_law (Send d) w f reply = count_counted (count (data_bytes d) w)
decision_count_law (Accept next e) w f reply = refl

module _ (setup : List ℕ) (f : Firmware) (reply : List ℕ) where
  -- the numbers of a call that was checked so
  checked_numbers : (v : Checked)
      → (tells (checked_handled setup f reply v).answer.reply ≡ v)
      × (request_kind (checked_handled setup f reply v).answer.reply
      ≡ unless_refused v (decision_kind (decision_of (request_of setup) f) (request_of setup).wlength))
      × (request_count (checked_handled setup f reply v).answer.reply
      ≡ unless_refused v (decision_count (decision_of (request_of setup) f) (request_of setup).wlength))
  unfolding served_of
  checked_numbers (Ok tt) =
      let q = request_of setup in (
        served_each (λ (r : Result RequestReply Refusal). tells r ≡ (Ok tt)) refl refl (λ n h. refl) q f reply,
        decision_kind_law (decision_of q f) q.wlength f reply,
        decision_count_law (decision_of q f) q.wlength f reply,
      )
  checked_numbers (Err r) = (refl, refl, refl)

  -- of every call's reply
  pub handled_numbers : Numbers setup f reply (handled setup f reply).answer.reply
  unfolding handled
  handled_numbers =
      let n = checked_numbers (request_checked setup f (length reply)) in
      record { refusal = n.0; kind = n.1; count = n.2 }

-- an answer that is the definition's has its numbers
pub handled_told : (setup : List ℕ) (f : Firmware) (reply : List ℕ) {a : RequestAnswer} {exit : List ℕ}
    → (a ≡ (handled setup f reply).answer) × (exit ≡ (handled setup f reply).buffer)
    → (a ≡ (handled setup f reply).answer) × (exit ≡ (handled setup f reply).buffer) × Numbers setup f reply a.reply
handled_told setup f reply e =
    (e.0, e.1, subst (λ (x : RequestAnswer). Numbers setup f reply x.reply) (sym e.0) (handled_numbers setup f reply))

-- ---- refusals: each exactly when it applies and none before it does

pub request_exactly : (setup : List ℕ) (f : Firmware) (room i : ℕ) → i < length (request_grounds setup f room)
    → (request_checked setup f room ≡ refusal_at (request_grounds setup f room) i) ↔ FirstAt (request_grounds setup f room) i
request_exactly setup f room = check_exactly (request_grounds setup f room) refl

-- ---- soundness

next_record : (d : Decision) (wlength : ℕ) (f : Firmware) (reply : List ℕ) → (decision_served d wlength f reply).answer.firmware ≡ next_of f d
next_record Stall wlength f reply = refl
next_record (Send d) wlength f reply = refl
next_record (Accept next e) wlength f reply = refl

pub answer_sound : (setup : List ℕ) (f : Firmware) (reply : List ℕ) → sound_firmware f ≡ true → sound_firmware
    (handled setup f reply).answer.firmware ≡ true
unfolding served_of
answer_sound setup f reply sound =
    let q = request_of setup in
    answer_each (λ (o : Handled). sound_firmware o.answer.firmware ≡ true) setup f reply (λ r. sound)
    (ap sound_firmware (next_record (decision_of q f) q.wlength f reply) ∙ decision_sound q f sound)

run_sound : (f : Firmware) (calls : List Question) → sound_firmware f ≡ true → sound_firmware (record_after f calls) ≡ true
unfolding record_after
run_sound f [] sound = sound
run_sound f (call ∷ calls) sound = run_sound (handled call.0 f call.1).answer.firmware calls (answer_sound call.0 f call.1 sound)

-- every record that is reached from power-on
pub reached_sound : (calls : List Question) → sound_firmware (record_after power_on_firmware calls) ≡ true
reached_sound calls = run_sound power_on_firmware calls refl

-- ---- the bytes that are sent

pub answer_fits : (setup : List ℕ) (f : Firmware) (reply : List ℕ) → request_count (handled setup f reply).answer.reply ≤ 64
answer_fits setup f reply =
    answer_each (λ (o : Handled). request_count o.answer.reply ≤ 64) setup f reply (λ r. zero-le)
    (served_each (λ (r : Result RequestReply Refusal). request_count r ≤ 64) zero-le zero-le (λ n h. h) (request_of setup) f reply)

-- a reply buffer that is shorter is refused, so what is counted lies within it
pub answer_within : (setup : List ℕ) (f : Firmware) (reply : List ℕ) → request_count (handled setup f reply).answer.reply ≤ length reply
answer_within setup f reply = within (request_checked setup f (length reply)) refl
  where
    within : (v : Checked) → request_checked setup f (length reply) ≡ v → request_count (handled setup f reply).answer.reply ≤ length reply
    within (Ok tt) e =
        le_trans (answer_fits setup f reply) (ltb-false (length reply) 64 (accepted_none (request_grounds setup f (length reply)) e 1))
    within (Err r) e =
        let n : ℕ = decision_count (decision_of (request_of setup) f) (request_of setup).wlength in
        let none = (handled_numbers setup f reply).count ∙ ap (λ (v : Checked). unless_refused v n) e in
        subst (λ (m : ℕ). m ≤ length reply) (sym none) zero-le
