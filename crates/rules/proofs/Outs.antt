-- OUT keeps the agreement: a payload that endpoint 1 stores joins the ledger's stored.
use mathlib.Core.Path.{◌≡◌, refl, sym, ap, ◌∙◌}
use mathlib.Core.Bool.{true, false, not, beq, and-false}
use mathlib.Core.List.{List, [], ◌∷◌, ◌++◌, append_assoc}
use Prim.Native.Nat.{ℕ, ◌+◌, ◌≤◌, ◌<◌}
use native.Mathlib.Omega.{arith}
use lib.Dec.{eqb}
use lib.ListN.{length}
use borrow.Author.Tests.{leb-false, eqb-true, lt-ltb, not-false, not-true}
use Rattle.bits.specs.Bit.{has, raised}
use Rattle.bits.specs.Flag.{is_on, flipped}
use Rattle.bits.proofs.Cases.{cond_elim}
use Rattle.bits.proofs.First.{first_elim, first_each, none, ◌⨾◌}
use Rattle.bits.proofs.Flag.{flags_set, flipped_flag}
use Rattle.bits.proofs.Mask.{has_or}
use Rattle.ring.specs.declared.Ring.{Ring}
use Rattle.ring.specs.Ring.{queue, full}
use Rattle.ring.proofs.Laws.{fits_fill, queue_fill}
use Rattle.chip.specs.declared.Chip.{Chip}
use Rattle.chip.specs.Mask.{in2bavirq, in3bavirq, out0davirq, out1davirq, ep1disab, stlep1out, unused_of}
use Rattle.chip.specs.Record.{flags_of}
use Rattle.chip.specs.Set.{set_ep0}
use Rattle.model.specs.declared.Event.{Event}
use Rattle.model.specs.Reply.{Outcome, outcome, Reply, silence, ack}
use Rattle.rules.specs.declared.OutVerdict.{OutVerdict}
use Rattle.rules.specs.declared.OutVerdict.TheVariants.{Silent, Stall, Nak, Drop, Store, Status}
use Rattle.rules.specs.Seen.{heard}
use Rattle.rules.specs.Out.{out_outcome, ep0_filled, out0_taken, out0_verdict, out0, out1_taken, out1}
use Rattle.rules.specs.Event.{out_event}
use Rattle.rules.specs.Ledger.{note_out, receiver_stored, set_receiver}
use Rattle.rules.proofs.Agree.{Books, Agree, with_ep0, with_flags}
use Rattle.rules.proofs.Irqs.{clean_epirq, agree_epirq, leaves_raised}
use Rattle.rules.proofs.Events.{Kept}

-- record and reply together, with what the ledger notes of the reply
abbrev Noted : Books → Event → List ℕ → Outcome Chip Reply → Type 0
Noted l e vs o = Agree (note_out l.0 e vs o.gives, l.1) o.state

-- ---- endpoint 0

out0_keeps : (l : Books) (c : Chip) (vs : List ℕ) → length vs ≤ 64 → Agree l c → (v : OutVerdict) → Agree l
    (out_outcome c (out0_taken c vs) v).state
out0_keeps l c vs short i Silent = i
out0_keeps l c vs short i Stall = i
out0_keeps l c vs short i Nak = i
out0_keeps l c vs short i Drop = i
out0_keeps l c vs short i Status = i
out0_keeps l c vs short i Store =
    agree_epirq l (set_ep0 (ep0_filled c.ep0 vs) c) (raised out0davirq c.registers.epirq)
    (leaves_raised out0davirq c.registers.epirq refl refl refl refl)
    (with_flags
    (with_ep0 i (record { count = short; readpos = omega arith; writepos = i.ep0.writepos; setuppos = i.ep0.setuppos }))
    (flags_set (flags_of c) 2 _ i.flags (flipped_flag c.ep0.outtoggle)))

-- ---- endpoint 1

ep1_stores : (l : Books) (c : Chip) (vs : List ℕ) → length vs ≤ 64 → c.ep1.ring.waiting < 2 → Agree l c
    → Agree (set_receiver (receiver_stored l.0.receiver vs) l.0, l.1) (out1_taken c vs)
ep1_stores l c vs short room i =
    let r : Ring = c.ep1.ring in
    let s = i.receives in
    let x : ℕ = c.registers.epirq in
    record {
      sends = rw (has_or x out1davirq in2bavirq) i.sends;
      receives = record {
        fits = fits_fill 2 r s.fits room vs short;
        queued =
            ap (λ (q : List (List ℕ)). q ++ (vs ∷ [])) s.queued ∙ append_assoc l.0.receiver.released (queue 2 r) (vs ∷ [])
            ∙ ap (λ (q : List (List ℕ)). l.0.receiver.released ++ q) (sym (queue_fill 2 r s.fits room vs short));
        toggled = ap flipped s.toggled;
        readpos = s.readpos;
        irq = has_or x out1davirq out1davirq ∙ sym (lt-ltb 0 (r.waiting + 1) (omega arith));
      };
      connection = i.connection;
      ep0 = i.ep0;
      ep3 = rw (has_or x out1davirq in3bavirq) i.ep3;
      unused = clean_epirq c (raised out1davirq x) (has_or x out1davirq (unused_of 11)) i.unused;
      flags = flags_set (flags_of c) 4 _ i.flags (flipped_flag c.ep1.toggle);
    }

-- stored or dropped by the toggle, which ledger and record hold alike
out1_keeps : (l : Books) (c : Chip) (e : Event) (vs : List ℕ) → eqb e.endpoint.0 1 ≡ true → length vs ≤ 64 → Agree l c
    → Noted l e vs (out1 c e.data1 vs)
out1_keeps l c e vs one short i =
    first_elim (λ (v : OutVerdict). Noted l e vs (out_outcome c (out1_taken c vs) v))
    ((has c.registers.clrtogs ep1disab, Silent) ∷ (has c.registers.epstalls stlep1out, Stall) ∷ (full 2 c.ep1.ring, Nak)
    ∷ (not (beq e.data1 (is_on c.ep1.toggle)), Drop) ∷ []) Store
    ((λ _. rw one i) ⨾ (λ _. rw one i) ⨾ (λ _. rw one i) ⨾ dropped ⨾ none)
    (λ free. taken (leb-false 2 c.ep1.ring.waiting (free 2)) (free 3))
  where
    same : beq e.data1 (is_on l.0.receiver.toggle) ≡ beq e.data1 (is_on c.ep1.toggle)
    same = ap (λ (t : ℕ). beq e.data1 (is_on t)) i.receives.toggled

    dropped : not (beq e.data1 (is_on c.ep1.toggle)) ≡ true → Noted l e vs (outcome c ack)
    dropped other = rw (one, same ∙ not-true (beq e.data1 (is_on c.ep1.toggle)) other) i

    taken : c.ep1.ring.waiting < 2 → not (beq e.data1 (is_on c.ep1.toggle)) ≡ false → Noted l e vs (outcome (out1_taken c vs) ack)
    taken room held = rw (one, same ∙ not-false (beq e.data1 (is_on c.ep1.toggle)) held) (ep1_stores l c vs short room i)

-- ---- the event

pub keeps_out : Kept 11 out_event note_out
keeps_out l c e vs code short _ i =
    cond_elim (Noted l e vs) (heard c e.damaged e.address)
    (λ _. first_each (Noted l e vs) ((eqb e.endpoint.0 0, out0 c e.data1 vs) ∷ (eqb e.endpoint.0 1, out1 c e.data1 vs) ∷ [])
    (outcome c silence)
    ((λ zero.
    let other : eqb e.endpoint.0 1 ≡ false = ap (λ (n : ℕ). eqb n 1) (eqb-true e.endpoint.0 0 zero) in
    rw other (out0_keeps l c vs (short refl) i (out0_verdict c e.data1 (length vs))))
    ⨾ (λ one. out1_keeps l c e vs one (short refl) i)
    ⨾ none)
    (silent l e vs i))
    (λ _. silent l e vs i)
  where
    silent : (l : Books) (e : Event) (vs : List ℕ) → Agree l c → Noted l e vs (outcome c silence)
    silent l e vs i = rw (and-false (eqb e.endpoint.0 1)) i
