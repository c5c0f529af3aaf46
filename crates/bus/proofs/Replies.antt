-- What an event can be replied: what holds of every handshake, of silence and of what an IN gives holds of every event's reply. So only
-- an IN is replied with bytes, and an event never with more than a packet's.
use mathlib.Core.Path.{◌≡◌, refl}
use mathlib.Core.Bool.{Bool, true, false, ◌&&◌}
use mathlib.Core.List.{List, [], ◌∷◌}
use Prim.Native.Nat.{ℕ, ◌≤◌}
use native.Mathlib.Omega.{arith}
use lib.Dec.{eqb}
use lib.ListN.{length, get_or, take, length-take, get_or-eq_default}
use Rattle.bits.specs.Flag.{is_on}
use Rattle.bits.proofs.Cases.{cond_elim}
use Rattle.bits.proofs.First.{first_each, none, ◌⨾◌}
use Rattle.bits.proofs.Rows.{rows_all, none as last, ◌⨾◌ as ◌then◌}
use Rattle.ring.specs.Ring.{oldest_packet, oldest_count}
use Rattle.ring.proofs.Laws.{oldest_small}
use Rattle.chip.specs.declared.Chip.{Chip}
use Rattle.chip.specs.Mask.{ep0inak, ep2inak, ep3inak, uresdnirq, suspirq, busactirq}
use Rattle.chip.specs.Sound.{sound_chip}
use Rattle.chip.proofs.Sound.{sound_clauses}
use Rattle.reset.specs.declared.Reset.TheVariants.{BusReset}
use Rattle.reset.specs.Reset.{chip_after}
use Rattle.rules.specs.declared.OutVerdict.{OutVerdict}
use Rattle.rules.specs.declared.OutVerdict.TheVariants as outs
use Rattle.rules.specs.declared.InVerdict.{InVerdict}
use Rattle.rules.specs.declared.InVerdict.TheVariants.{Silent, Stall, Nak, Send, Status}
use Rattle.model.specs.declared.Event.{Event}
use Rattle.model.specs.Reply.{Outcome, outcome, Reply, transferred, done, silence, ack, nak, stall, sent, reply_bytes}
use Rattle.rules.specs.Seen.{connection_of, seen, heard}
use Rattle.rules.specs.Out.{out_outcome, out0, out1, out0_taken, out1_taken, out0_verdict, out1_verdict}
use Rattle.rules.specs.In.{in_outcome, in0, in2, in3, in0_gone, in2_gone, in3_gone, in0_verdict, in2_verdict, in3_verdict}
use Rattle.rules.specs.Event.{EventRule, event_rules, no_event, when_seen, raise_usbirq, setup_event, out_event, in_event}
use Rattle.event_answer.specs.Answer.{outcome_buffer}
use Rattle.bus.specs.EventCall.{event_outcome}

-- ---- a claim on every reply

pub record Plain (P : Reply → Type 0) : Type 0 where
  pub done : P done
  pub silence : P silence
  pub ack : P ack
  pub nak : P nak
  pub stall : P stall

module _ (P : Reply → Type 0) (plain : Plain P) where
  abbrev Gives : Outcome Chip Reply → Type 0
  Gives o = P o.gives

  abbrev Rule : EventRule → Type 0
  Rule f = (c : Chip) (e : Event) (vs : List ℕ) → Gives (f c e vs)

  seen_gives : (f : Chip → Chip) → Rule (when_seen f)
  seen_gives f c e vs = cond_elim Gives (seen (connection_of c)) (λ _. plain.done) (λ _. plain.silence)

  setup_gives : Rule setup_event
  setup_gives c e vs = cond_elim Gives (heard c e.damaged e.address && eqb e.endpoint.0 0) (λ _. plain.ack) (λ _. plain.silence)

  verdict_gives : (c taken : Chip) (v : OutVerdict) → Gives (out_outcome c taken v)
  verdict_gives c taken outs.Silent = plain.silence
  verdict_gives c taken outs.Stall = plain.stall
  verdict_gives c taken outs.Nak = plain.nak
  verdict_gives c taken outs.Drop = plain.ack
  verdict_gives c taken outs.Store = plain.ack
  verdict_gives c taken outs.Status = plain.ack

  out_gives : Rule out_event
  out_gives c e vs =
      cond_elim Gives (heard c e.damaged e.address)
      (λ _. first_each Gives
      ((eqb e.endpoint.0 0, out0 c e.data1 vs) ∷ (eqb e.endpoint.0 1, out1 c e.data1 vs) ∷ []) (outcome c silence)
      ((λ _. verdict_gives c (out0_taken c vs) (out0_verdict c e.data1 (length vs)))
      ⨾ (λ _. verdict_gives c (out1_taken c vs) (out1_verdict c e.data1)) ⨾ none) plain.silence)
      (λ _. plain.silence)

  abbrev Code : ℕ → Type 0
  Code n = (c : Chip) (e : Event) (vs : List ℕ) → (n ≡ 12 → Gives (in_event c e vs)) → Gives (get_or event_rules n no_event c e vs)

  past : (n : ℕ) → 13 ≤ n → Code n
  past n h c e vs at12 = rw (get_or-eq_default event_rules no_event h) plain.done

  code_gives : (n : ℕ) → Code n
  code_gives =
      rows_all Code 13
      ((λ c e vs _. plain.done) then (λ c e vs _. plain.done) then (λ c e vs _. plain.done)
      then (λ c e vs _. plain.done) then (λ c e vs _. plain.done) then (λ c e vs _. plain.done)
      then (λ c e vs _. seen_gives (chip_after BusReset) c e vs) then (λ c e vs _. seen_gives (raise_usbirq uresdnirq) c e vs)
      then (λ c e vs _. seen_gives (raise_usbirq suspirq) c e vs) then (λ c e vs _. seen_gives (raise_usbirq busactirq) c e vs)
      then (λ c e vs _. setup_gives c e vs) then (λ c e vs _. out_gives c e vs) then (λ c e vs at12. at12 refl) then last)
      past

  -- of every event, if it holds of what an IN gives
  pub event_gives : (c : Chip) (e : Event) (vs : List ℕ) → (e.code ≡ 12 → P (in_event c e vs).gives) → P (event_outcome c e vs).gives
  event_gives c e vs at12 = code_gives e.code c e vs at12

  -- of what an IN gives, if it holds of a data packet of at most 64 bytes; the record is sound
  module _ (packet : (data1 : Bool) (vs : List ℕ) → length vs ≤ 64 → P (sent data1 vs)) (c : Chip) (sound : sound_chip c ≡ true) where
    in_gives : (inak : ℕ) (data1 : Bool) (bytes : List ℕ) (gone : Chip) (acknowledged : Bool) (v : InVerdict) → length bytes ≤ 64
        → Gives (in_outcome inak (sent data1 bytes) gone c acknowledged v)
    in_gives inak data1 bytes gone acknowledged Silent h = plain.silence
    in_gives inak data1 bytes gone acknowledged Stall h = plain.stall
    in_gives inak data1 bytes gone acknowledged Nak h = plain.nak
    in_gives inak data1 bytes gone acknowledged Send h = packet data1 bytes h
    in_gives inak data1 bytes gone acknowledged Status h = packet true [] (omega arith)

    taken : (n : ℕ) (bytes : List ℕ) → n ≤ 64 → length (take n bytes) ≤ 64
    taken n bytes h = omega (arith, length-take n bytes)

    pub in_packet : (e : Event) (vs : List ℕ) → Gives (in_event c e vs)
    in_packet e vs =
        let s = sound_clauses c sound in
        cond_elim Gives (heard c false e.address)
        (λ _. first_each Gives
        ((eqb e.endpoint.0 0, in0 c e.acknowledged) ∷ (eqb e.endpoint.0 2, in2 c e.acknowledged) ∷
        (eqb e.endpoint.0 3, in3 c e.acknowledged) ∷ [])
        (outcome c silence)
        ((λ _. in_gives ep0inak (is_on c.ep0.intoggle) (take c.ep0.count c.ep0.bytes) (in0_gone c) e.acknowledged (in0_verdict c)
        (taken c.ep0.count c.ep0.bytes s.ep0.count))
        ⨾ (λ _. in_gives ep2inak (is_on c.ep2.toggle) (oldest_packet 2 c.ep2.ring) (in2_gone c) e.acknowledged (in2_verdict c)
        (taken (oldest_count 2 c.ep2.ring) _ (oldest_small 2 c.ep2.ring s.ep2.ring)))
        ⨾ (λ _. in_gives ep3inak (is_on c.ep3.toggle) (take c.ep3.count c.ep3.bytes) (in3_gone c) e.acknowledged (in3_verdict c)
        (taken c.ep3.count c.ep3.bytes s.ep3.count))
        ⨾ none)
        plain.silence)
        (λ _. plain.silence)

-- ---- only an IN is replied with bytes

-- the lent buffer stays
pub quiet_buffer : (c : Chip) (e : Event) (vs buffer : List ℕ) → (e.code ≡ 12 → ⊥) → buffer ≡ outcome_buffer (event_outcome c e vs) buffer
quiet_buffer c e vs buffer other =
    rw (event_gives (λ (a : Reply). reply_bytes a ≡ []) (record { done = refl; silence = refl; ack = refl; nak = refl; stall = refl }) c e vs
    (λ is. absurd (other is)))

-- ---- an event is never replied with a transfer's bytes, nor with more than 64

abbrev pub Packet : Reply → Type 0
Packet (transferred vs) = ⊥
Packet done = Unit
Packet silence = Unit
Packet ack = Unit
Packet nak = Unit
Packet stall = Unit
Packet (sent data1 vs) = length vs ≤ 64

plain_packet : Plain Packet
plain_packet = record { done = tt; silence = tt; ack = tt; nak = tt; stall = tt }

pub event_packet : (c : Chip) (e : Event) (vs : List ℕ) → sound_chip c ≡ true → Packet (event_outcome c e vs).gives
event_packet c e vs sound =
    event_gives Packet plain_packet c e vs (λ _. in_packet Packet plain_packet (λ data1 bytes h. h) c sound e vs)
