-- IN keeps the agreement: what endpoint 2 sends and the host acknowledges joins the ledger's acknowledged.
use mathlib.Core.Path.{◌≡◌, refl, sym, ap, ◌∙◌}
use mathlib.Core.Bool.{Bool, true, false, not, cond, ◌&&◌}
use mathlib.Core.List.{List, [], ◌∷◌, ◌++◌, append_assoc}
use Prim.Native.Nat.{ℕ, ◌-◌, ◌<◌}
use native.Mathlib.Omega.{arith}
use lib.Bits.{bit_and}
use lib.Dec.{eqb}
use borrow.Author.Tests.{eqb-true, eqb-false, lt-ltb, not-true}
use Rattle.bits.specs.Bit.{has, raised}
use Rattle.bits.specs.Flag.{is_on}
use Rattle.bits.proofs.Cases.{cond_elim, cond_same}
use Rattle.bits.proofs.First.{first_elim, first_each, none, ◌⨾◌}
use Rattle.bits.proofs.Flag.{flags_set, flipped_flag}
use Rattle.bits.proofs.Mask.{has_or, has_and_none}
use Rattle.ring.specs.declared.Ring.{Ring}
use Rattle.ring.specs.Ring.{queue, oldest_packet, release_oldest}
use Rattle.ring.proofs.Laws.{release_some, sound_most, fits_release, queue_release, next_release}
use Rattle.chip.specs.declared.Chip.{Chip}
use Rattle.chip.specs.Mask.{in0bavirq, in2bavirq, in3bavirq, out1davirq, ep2inak, ep2disab, stlep2in, fnaddr_bits, unused_of}
use Rattle.chip.specs.Record.{bytes_of, flags_of}
use Rattle.chip.specs.Set.{set_ep0}
use Rattle.chip.specs.Sound.{unused_registers}
use Rattle.chip.proofs.Sound.{clean_set, clean_set_any}
use Rattle.model.specs.declared.Event.{Event}
use Rattle.model.specs.Reply.{Outcome, outcome, Reply, silence, sent}
use Rattle.rules.specs.declared.InVerdict.{InVerdict}
use Rattle.rules.specs.declared.InVerdict.TheVariants.{Silent, Stall, Nak, Send, Status}
use Rattle.rules.specs.Seen.{heard}
use Rattle.rules.specs.Control.{setup_byte, sets_address}
use Rattle.rules.specs.In.{set_inak, addressed, in_outcome, ep0_gone, in0_gone, in0_verdict, in0, in2_gone, in2}
use Rattle.rules.specs.In.{in3_gone, in3_verdict, in3}
use Rattle.rules.specs.Event.{in_event}
use Rattle.rules.specs.Ledger.{note_in, note_sent, sender_acknowledged, set_sender}
use Rattle.rules.proofs.Agree.{Books, Agree, with_unused, with_flags, tells_same}
use Rattle.rules.proofs.Irqs.{clean_epirq, agree_epirq, leaves_raised}
use Rattle.rules.proofs.Events.{Kept, Left}

-- ---- what every endpoint has in common

-- R17 has all eight bits
inak_keeps : (l : Books) (c : Chip) (m : ℕ) → Agree l c → Agree l (set_inak m c)
inak_keeps l c m i = with_unused i (clean_set_any (bytes_of c.registers) unused_registers 8 _ i.unused refl)

addressed_keeps : (l : Books) (c : Chip) → Agree l c → Agree l (addressed c)
addressed_keeps l c i =
    cond_elim (Agree l) (sets_address c)
    (λ _. with_unused i
    (clean_set (bytes_of c.registers) unused_registers 10 (bit_and (setup_byte c 2) fnaddr_bits) i.unused
    (has_and_none (setup_byte c 2) fnaddr_bits (unused_of 19) refl)))
    (λ _. i)

-- where the record after the packet has left agrees, so does the record after any verdict
in_keeps : (l : Books) (inak : ℕ) (packet : Reply) (gone c : Chip) (arrives : Bool) → Agree l c → Agree l gone → (v : InVerdict)
    → Left l (in_outcome inak packet gone c arrives v)
in_keeps l inak packet gone c arrives i j Silent = i
in_keeps l inak packet gone c arrives i j Stall = i
in_keeps l inak packet gone c arrives i j Nak = inak_keeps l c inak i
in_keeps l inak packet gone c arrives i j Send = cond_elim (Agree l) arrives (λ _. j) (λ _. i)
in_keeps l inak packet gone c arrives i j Status = cond_elim (Agree l) arrives (λ _. addressed_keeps l c i) (λ _. i)

-- ---- endpoints 0 and 3

in0_gone_law : (l : Books) (c : Chip) → Agree l c → Agree l (in0_gone c)
in0_gone_law l c i =
    agree_epirq l (set_ep0 (ep0_gone c.ep0) c) (raised in0bavirq c.registers.epirq)
    (leaves_raised in0bavirq c.registers.epirq refl refl refl refl)
    (with_flags i
    (flags_set _ 1 _ (flags_set (flags_of c) 0 0 i.flags (omega arith)) (flipped_flag c.ep0.intoggle)))

in3_gone_law : (l : Books) (c : Chip) → Agree l c → Agree l (in3_gone c)
in3_gone_law l c i =
    let x : ℕ = c.registers.epirq in
    record {
      sends = rw (has_or x in3bavirq in2bavirq) i.sends;
      receives = rw (has_or x in3bavirq out1davirq) i.receives;
      connection = i.connection;
      ep0 = i.ep0;
      ep3 = record { count = i.ep3.count; writepos = i.ep3.writepos; irq = λ _. refl };
      unused = clean_epirq c (raised in3bavirq x) (has_or x in3bavirq (unused_of 11)) i.unused;
      flags = flags_set _ 7 _ (flags_set (flags_of c) 6 0 i.flags (omega arith)) (flipped_flag c.ep3.toggle);
    }

-- ---- endpoint 2: what is sent is the oldest waiting packet

-- the packet joins the ledger's acknowledged
abbrev acknowledges : Books → List ℕ → Books
acknowledges l vs = (set_sender (sender_acknowledged l.0.sender vs) l.0, l.1)

in2_gone_law : (l : Books) (c : Chip) → 0 < c.ep2.ring.waiting → Agree l c
    → Agree (acknowledges l (oldest_packet 2 c.ep2.ring)) (in2_gone c)
in2_gone_law l c some i =
    let r : Ring = c.ep2.ring in
    let s = i.sends in
    let x : ℕ = c.registers.epirq in
    let fewer : r.waiting - 1 < 2 = omega (arith, sound_most 2 r s.fits.sound) in
    record {
      sends = record {
        fits = fits_release 2 r s.fits;
        queued =
            s.queued ∙ ap (λ (q : List (List ℕ)). l.0.sender.acknowledged ++ q) (queue_release 2 r some)
            ∙ sym (append_assoc l.0.sender.acknowledged (oldest_packet 2 r ∷ []) (queue 2 (release_oldest 2 r)));
        bytes = rw (release_some 2 r some) s.bytes;
        turn = s.turn ∙ sym (next_release 2 r some);
        place = s.place;
        writepos = s.writepos;
        count = s.count;
        irq = tells_same (has_or x in2bavirq in2bavirq ∙ sym (rw (release_some 2 r some) (lt-ltb (r.waiting - 1) 2 fewer)));
      };
      receives = rw (has_or x in2bavirq out1davirq) i.receives;
      connection = i.connection;
      ep0 = i.ep0;
      ep3 = rw (has_or x in2bavirq in3bavirq) i.ep3;
      unused = clean_epirq c (raised in2bavirq x) (has_or x in2bavirq (unused_of 11)) i.unused;
      flags = flags_set (flags_of c) 5 _ i.flags (flipped_flag c.ep2.toggle);
    }

-- with what the ledger notes of the reply, where the ACK arrives or not
abbrev Sent : Books → Bool → Outcome Chip Reply → Type 0
Sent l arrives o = Agree (cond arrives (note_sent l.0 o.gives) l.0, l.1) o.state

-- a reply that the ledger does not note
unnoted : (l : Books) (c : Chip) (arrives : Bool) → Agree l c → Agree (cond arrives l.0 l.0, l.1) c
unnoted l c true i = i
unnoted l c false i = i

-- what is kept where endpoint 2 answers by a verdict
abbrev In2 : Books → Chip → Bool → InVerdict → Type 0
In2 l c arrives v = Sent l arrives
    (in_outcome ep2inak (sent (is_on c.ep2.toggle) (oldest_packet 2 c.ep2.ring)) (in2_gone c) c arrives v)

in2_silent : (l : Books) (c : Chip) (arrives : Bool) → Agree l c → In2 l c arrives Silent
in2_silent l c arrives i = unnoted l c arrives i

in2_stall : (l : Books) (c : Chip) (arrives : Bool) → Agree l c → In2 l c arrives Stall
in2_stall l c arrives i = unnoted l c arrives i

in2_nak : (l : Books) (c : Chip) (arrives : Bool) → Agree l c → In2 l c arrives Nak
in2_nak l c arrives i = unnoted l (set_inak ep2inak c) arrives (inak_keeps l c ep2inak i)

in2_send : (l : Books) (c : Chip) (arrives : Bool) → Agree l c → not (eqb c.ep2.ring.waiting 0) ≡ true → In2 l c arrives Send
in2_send l c true i waits =
    let n : c.ep2.ring.waiting ≡ 0 → ⊥ = eqb-false c.ep2.ring.waiting 0 (not-true (eqb c.ep2.ring.waiting 0) waits) in
    in2_gone_law l c (omega arith) i
in2_send l c false i waits = i

in2_keeps : (l : Books) (c : Chip) (arrives : Bool) → Agree l c → Sent l arrives (in2 c arrives)
in2_keeps l c arrives i =
    first_elim (In2 l c arrives)
    ((has c.registers.clrtogs ep2disab, Silent) ∷ (has c.registers.epstalls stlep2in, Stall) ∷
    (not (eqb c.ep2.ring.waiting 0), Send) ∷ []) Nak
    ((λ _. in2_silent l c arrives i) ⨾ (λ _. in2_stall l c arrives i) ⨾ (λ waits. in2_send l c arrives i waits) ⨾ none)
    (λ _. in2_nak l c arrives i)

-- ---- the event

abbrev Noted : Books → Event → List ℕ → Outcome Chip Reply → Type 0
Noted l e vs o = Agree (note_in l.0 e vs o.gives, l.1) o.state

pub keeps_in : (n : ℕ) → Kept n in_event note_in
keeps_in n l c e vs _ _ _ i =
    let arrives : Bool = e.acknowledged in
    let silent : Noted l e vs (outcome c silence) = rw (cond_same (eqb e.endpoint.0 2 && arrives) l.0) i in
    cond_elim (Noted l e vs) (heard c false e.address)
    (λ _. first_each (Noted l e vs)
    ((eqb e.endpoint.0 0, in0 c arrives) ∷ (eqb e.endpoint.0 2, in2 c arrives) ∷ (eqb e.endpoint.0 3, in3 c arrives) ∷ [])
    (outcome c silence)
    ((λ zero.
    let other : eqb e.endpoint.0 2 ≡ false = ap (λ (n : ℕ). eqb n 2) (eqb-true e.endpoint.0 0 zero) in
    rw other (in_keeps l _ _ (in0_gone c) c arrives i (in0_gone_law l c i) (in0_verdict c)))
    ⨾ (λ two. rw two (in2_keeps l c arrives i))
    ⨾ (λ three.
    let other : eqb e.endpoint.0 2 ≡ false = ap (λ (n : ℕ). eqb n 2) (eqb-true e.endpoint.0 3 three) in
    rw other (in_keeps l _ _ (in3_gone c) c arrives i (in3_gone_law l c i) (in3_verdict c)))
    ⨾ none)
    silent)
    (λ _. silent)
