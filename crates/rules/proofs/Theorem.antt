-- Demand 3, for every list of calls from power-on and with no hypothesis on the list; that every record of a run is sound; that
-- refusal 1 never answers a run; that a refused call changes neither record nor ledger; when each refusal is given. First over any chip
-- that is lawful, then of the MAX3420E. The theorems assume nothing: no axiom, and no condition on bytes, events or buffers.
use mathlib.Core.Path.{◌≡◌, sym, ap, ◌∙◌, subst}
use mathlib.Core.Logic.{◌↔◌}
use mathlib.Core.Bool.{Bool, true}
use mathlib.Core.List.{List, ◌++◌}
use Prim.Native.Nat.{ℕ, ◌^◌, ◌<◌}
use lib.Dec.{ltb}
use lib.ListN.{length}
use borrow.Author.Tests.{eqb-true, ltb-true, lt-ltb, eq-eqb}
use Rattle.bits.specs.Bit.{bit, has}
use Rattle.bits.proofs.First.{FirstAt}
use Rattle.bits.proofs.Mask.{has_bit}
use Rattle.ring.proofs.Laws.{queue_length, sound_most}
use Rattle.refusal.specs.declared.Refusal.{Refusal}
use Rattle.refusal.specs.declared.Refusal.TheVariants.{Unsound}
use Rattle.refusal.specs.Check.{check}
use Rattle.refusal.proofs.Check.{refusal_at}
use Rattle.chip.specs.declared.Chip.{Chip}
use Rattle.chip.specs.Record.{power_on_chip}
use Rattle.chip.specs.Sound.{sound_chip}
use Rattle.model.specs.Call.{Call, transfer, event, refused, grounds, Model, checked, call_to, answer_of, run_to, history}
use Rattle.model.specs.Book.{Book, note, book_of}
use Rattle.model.proofs.Refusals.{sound_accepted, refusal_exactly}
use Rattle.model.proofs.Books.{both, book_both}
use Rattle.model.proofs.Keeps.{run_keeps, run_always, refused_keeps}
use Rattle.rules.specs.Event.{max3420e}
use Rattle.rules.specs.Ledger.{Ledger, blank, max3420e_ledger}
use Rattle.rules.specs.Watch.{Watch, unwritten}
use Rattle.rules.specs.Demand.{Demand3, Demand3Of}
use Rattle.rules.proofs.Agree.{Books, Agree}
use Rattle.rules.proofs.Lawful.{Invariant, Lawful, max3420e_lawful}

-- ---- what the agreement says of the record

-- a bit of a register, as it reads, is 1 only where an order holds
bit_implies : (x k n m : ℕ) → (has x (2 ^ k) ≡ true → ltb n m ≡ true) → bit x k ≡ 1 → n < m
bit_implies x k n m h one = ltb-true n m (h (has_bit x k ∙ eq-eqb (bit x k) 1 one))

-- or tells it
bit_tells : (x k n m : ℕ) → has x (2 ^ k) ≡ ltb n m → (bit x k ≡ 1) ↔ (n < m)
bit_tells x k n m h = (
  bit_implies x k n m (λ one. sym h ∙ one),
  λ less. eqb-true (bit x k) 1
      (sym (has_bit x k) ∙ h ∙ lt-ltb n m less),
)

agree_demand : (l : Books) (c : Chip) → Agree l c → Demand3 l.0 l.1 c
agree_demand l c i = record {
  sent = i.sends.queued;
  received = i.receives.queued;
  most2 = rw (queue_length 2 c.ep2.ring) (sound_most 2 c.ep2.ring i.sends.fits.sound);
  most1 = rw (queue_length 2 c.ep1.ring) (sound_most 2 c.ep1.ring i.receives.fits.sound);
  in2bavirq = rw (queue_length 2 c.ep2.ring) (bit_implies c.registers.epirq 3 c.ep2.ring.waiting 2 i.sends.irq.only);
  out1davirq = rw (queue_length 2 c.ep1.ring) (bit_tells c.registers.epirq 2 0 c.ep1.ring.waiting i.receives.irq);
  in2exactly = λ none.
      rw (queue_length 2 c.ep2.ring) (bit_tells c.registers.epirq 3 c.ep2.ring.waiting 2 (i.sends.irq.exactly none));
}

-- ---- any chip that is lawful

module _ {R : Type 0} {core : R → Chip} {I : Invariant R} {m : Model R} {p : Book Ledger} {q : Book Watch} (w : Lawful core I m p q) where
  -- the invariant holds after every list of calls
  pub run_invariant : (ks : List Call) → I (book_of (both p q) (blank, unwritten) (history m m.start ks)) (run_to m m.start ks)
  run_invariant ks = run_keeps w.keeps ks (blank, unwritten) m.start (run_always m ks m.start) w.starts

  pub run_demand : (ks : List Call)
      → Demand3 (book_of p blank (history m m.start ks)) (book_of q unwritten (history m m.start ks)) (core (run_to m m.start ks))
  run_demand ks =
      subst (λ (l : Books). Demand3 l.0 l.1 (core (run_to m m.start ks)))
      (book_both p q w.alike (history m m.start ks) (blank, unwritten)) (agree_demand _ _ (w.agrees _ _ (run_invariant ks)))

  pub run_sound : (ks : List Call) → m.sound (run_to m m.start ks) ≡ true
  run_sound ks = w.sound _ _ (run_invariant ks)

  pub run_accepted : (ks : List Call) (k : Call) → answer_of m (run_to m m.start ks) k ≡ refused Unsound → ⊥
  run_accepted ks k e =
      let c : R = run_to m m.start ks in
      sound_accepted k (m.further c k) (w.further c k)
      (ap (λ (t : Bool). check (grounds t k ++ m.further c k)) (sym (run_sound ks)) ∙ (refused_keeps m p blank c k Unsound e).2)

-- ---- the MAX3420E

-- demand 3
pub demand3 : (ks : List Call) → Demand3Of (history max3420e power_on_chip ks) (run_to max3420e power_on_chip ks)
demand3 = run_demand max3420e_lawful

-- everything reached from power-on is sound
pub reached_sound : (ks : List Call) → sound_chip (run_to max3420e power_on_chip ks) ≡ true
reached_sound = run_sound max3420e_lawful

-- so refusal 1 never answers a run
pub reached_accepted : (ks : List Call) (k : Call) → answer_of max3420e (run_to max3420e power_on_chip ks) k ≡ refused Unsound → ⊥
reached_accepted = run_accepted max3420e_lawful

-- a refused call changes neither record nor ledger
pub refused_changes_nothing : (l : Ledger) (c : Chip) (k : Call) (r : Refusal) → answer_of max3420e c k ≡ refused r
    → (call_to max3420e c k ≡ c) × (note max3420e_ledger l k (answer_of max3420e c k) ≡ l)
refused_changes_nothing l c k r e = let kept = refused_keeps max3420e max3420e_ledger l c k r e in (kept.0, kept.1)

-- each ground of refusal is given exactly when it applies and none before it does
pub refused_exactly : (c : Chip) (k : Call) (i : ℕ) → i < length (grounds (sound_chip c) k)
    → (checked max3420e c k ≡ refusal_at (grounds (sound_chip c) k) i) ↔ FirstAt (grounds (sound_chip c) k) i
refused_exactly c (transfer bytes room) i = refusal_exactly (sound_chip c) (transfer bytes room) i
refused_exactly c (event e payload room) i = refusal_exactly (sound_chip c) (event e payload room) i
