-- A reset of the record and of both books keeps the agreement.
use mathlib.Core.Path.{◌≡◌, refl, sym, ap, ◌∙◌, subst}
use mathlib.Core.Bool.{true, false}
use mathlib.Core.List.{List}
use Prim.Native.Nat.{ℕ, ◌*◌, ◌≤◌}
use native.Mathlib.Omega.{arith}
use lib.Dec.{ltb}
use lib.ListN.{length}
use Rattle.bits.specs.Bit.{has}
use Rattle.bits.proofs.Mask.{has_masked}
use Rattle.ring.specs.declared.Ring.{Ring}
use Rattle.ring.specs.Ring.{drained, with_bytes, Fits}
use Rattle.ring.proofs.Laws.{fits_drained}
use Rattle.chip.specs.declared.Chip.{Chip}
use Rattle.chip.specs.Mask.{in2bavirq, out1davirq, available_irqs}
use Rattle.chip.proofs.Sound.{Sound, sound_clauses}
use Rattle.reset.specs.declared.Reset.{Reset}
use Rattle.reset.specs.declared.Reset.TheVariants.{PowerOn, ChipReset, BusReset}
use Rattle.reset.specs.Table.{register_after}
use Rattle.reset.specs.Reset.{bytes_after, ring_after, chip_after}
use Rattle.reset.proofs.Effects.{reset_sound}
use Rattle.rules.specs.Ledger.{connection_after, ledger_after}
use Rattle.rules.specs.Watch.{watch_after}
use Rattle.rules.proofs.Agree.{Books, Sends, Receives, SendsOf, ReceivesOf, Agree, tells_same}

-- a ring after a reset: drained, its bytes by the rule for bytes
ring_after_law : (k : Reset) (r : Ring) → drained (with_bytes r (bytes_after k 128 r.bytes)) ≡ ring_after k r
ring_after_law PowerOn r = refl
ring_after_law ChipReset r = refl
ring_after_law BusReset r = refl

bytes_after_length : (k : Reset) (s : List ℕ) → 2 * 64 ≤ length s → 2 * 64 ≤ length (bytes_after k 128 s)
bytes_after_length PowerOn s h = omega arith
bytes_after_length ChipReset s h = omega arith
bytes_after_length BusReset s h = h

fits_after : (k : Reset) (r : Ring) → Fits 2 r → Fits 2 (drained (with_bytes r (bytes_after k 128 r.bytes)))
fits_after k r h = fits_drained r (bytes_after k 128 r.bytes) (bytes_after_length k r.bytes h.room)

-- IN2BAVIRQ is 1
in2_after : (k : Reset) (x : ℕ) → has (register_after k 11 x) in2bavirq ≡ true
in2_after PowerOn x = has_masked 0 available_irqs x in2bavirq
in2_after ChipReset x = has_masked 0 available_irqs x in2bavirq
in2_after BusReset x = has_masked 0 available_irqs x in2bavirq

-- the books after a reset
abbrev books_after : Reset → Books → Books
books_after k l = (ledger_after k l.0, watch_after k l.1)

module _ (k : Reset) (l : Books) (c : Chip) (i : Agree l c) where
  -- every clause of soundness holds after a reset; flags 8 and 9 are VBUS and the oscillator's
  clauses : Sound (chip_after k c)
  clauses = sound_clauses (chip_after k c) (reset_sound k c (i.flags.each 8) (i.flags.each 9))

  sends : SendsOf (books_after k l) (chip_after k c)
  sends =
      subst (λ (r : Ring). Sends (ledger_after k l.0).sender false r 0 (chip_after k c).ep2.count
      (has (chip_after k c).registers.epirq in2bavirq))
      (ring_after_law k c.ep2.ring)
      (record {
        fits = fits_after k c.ep2.ring i.sends.fits;
        queued = refl;
        bytes = ap (bytes_after k 128) i.sends.bytes;
        turn = refl;
        place = refl;
        writepos = omega arith;
        count = clauses.ep2.count;
        irq = tells_same (in2_after k c.registers.epirq);
      })

  receives : ReceivesOf (books_after k l) (chip_after k c)
  receives =
      subst (λ (r : Ring). Receives (ledger_after k l.0).receiver r 0 0 (has (chip_after k c).registers.epirq out1davirq))
      (ring_after_law k c.ep1.ring)
      (record {
        fits = fits_after k c.ep1.ring i.receives.fits;
        queued = refl;
        toggled = refl;
        readpos = omega arith;
        irq = clauses.ep1.irq ∙ ap (λ (r : Ring). ltb 0 r.waiting) (sym (ring_after_law k c.ep1.ring));
      })

  pub agree_reset : Agree (books_after k l) (chip_after k c)
  agree_reset = record {
    sends = sends;
    receives = receives;
    connection = record {
      ledger = ap (connection_after k) i.connection.ledger;
      watch = ap (register_after k 15) i.connection.watch;
    };
    ep0 = clauses.ep0;
    ep3 = clauses.ep3;
    unused = clauses.unused;
    flags = clauses.flags;
  }
