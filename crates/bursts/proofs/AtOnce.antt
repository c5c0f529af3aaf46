-- What a burst writes to R0, R2 or R3 is copied at once: for every record, every list of bytes and every command byte that writes the
-- register. One law over the FIFO, used for the three. And what the copy does where bytes are ignored.
use mathlib.Core.Path.{◌≡◌, refl, sym, ap, ◌∙◌}
use mathlib.Core.Bool.{Bool, true, false, cond}
use mathlib.Core.List.{List, [], ◌∷◌}
use Prim.Native.Nat.{ℕ, ◌+◌, ◌-◌, ◌≤◌, min}
use native.Mathlib.Omega.{arith}
use lib.ListN.{length, take, length-take}
use Rattle.chip.specs.declared.Chip.{Chip}
use Rattle.model.specs.Spi.{command_register, command_writes, command_acknowledges, command_to, burst_to, transfer_to}
use Rattle.rules.specs.Spi.{max3420e_spi, set_ackstat}
use Rattle.bursts.specs.Burst.{Filling, WriteFifo, ep0fifo, ep2infifo, ep3infifo, limit_of, copied_to, fifo_stored, fifo_copied}
use Rattle.bursts.proofs.Copied.{stores_none, copied_is_stored}
use Rattle.bursts.proofs.Fifo.{written_ep0, written_ep2, written_ep3}

-- what is used of a FIFO: its bytes one by one are the burst; put back as they are, buffers and position change nothing; what is put is
-- what stands there; ACKSTAT is no part of it
pub record Lawful (w : WriteFifo) : Type 0 where
  pub stored : (c : Chip) (bs : List ℕ) → fifo_stored w c bs ≡ burst_to max3420e_spi c true w.register bs
  pub kept : (c : Chip) → w.put c (w.state c) ≡ c
  pub stands : (c : Chip) (s : Filling) → w.state (w.put c s) ≡ s
  pub apart : (c : Chip) (bs : List ℕ) → fifo_copied w (set_ackstat c) bs ≡ set_ackstat (fifo_copied w c bs)

pub ep0_lawful : Lawful ep0fifo
ep0_lawful = record { stored = written_ep0; kept = λ c. refl; stands = λ c s. refl; apart = λ c bs. refl }

pub ep2_lawful : Lawful ep2infifo
ep2_lawful = record { stored = written_ep2; kept = λ c. refl; stands = λ c s. refl; apart = λ c bs. refl }

pub ep3_lawful : Lawful ep3infifo
ep3_lawful = record { stored = written_ep3; kept = λ c. refl; stands = λ c s. refl; apart = λ c bs. refl }

at_most_64 : (chips : Bool) → limit_of chips ≤ 64
at_most_64 true = omega arith
at_most_64 false = omega arith

module _ (w : WriteFifo) (l : Lawful w) where
  pub copied_at_once : (c : Chip) (bs : List ℕ) → burst_to max3420e_spi c true w.register bs ≡ fifo_copied w c bs
  copied_at_once c bs =
      sym (l.stored c bs) ∙ ap (w.put c) (sym (copied_is_stored (w.start c) (limit_of (w.chips c)) bs (w.state c)))

  -- ---- a transfer: the command byte, then the copy; bit 0 of the command byte sets ACKSTAT beside it

  transfer_copies : (c : Chip) (m : ℕ) (bs : List ℕ) → command_register m ≡ w.register → command_writes m ≡ true
      → transfer_to max3420e_spi c (m ∷ bs) ≡ fifo_copied w (command_to max3420e_spi c m) bs
  transfer_copies c m bs here writes = rw (writes, here) (copied_at_once (command_to max3420e_spi c m) bs)

  pub transfer_copied : (c : Chip) (m : ℕ) (bs : List ℕ) → command_register m ≡ w.register → command_writes m ≡ true
      → command_acknowledges m ≡ false → transfer_to max3420e_spi c (m ∷ bs) ≡ fifo_copied w c bs
  transfer_copied c m bs here writes bare =
      transfer_copies c m bs here writes ∙ ap (λ (t : Bool). fifo_copied w (cond t (set_ackstat c) c) bs) bare

  pub transfer_acknowledges : (c : Chip) (m : ℕ) (bs : List ℕ) → command_register m ≡ w.register → command_writes m ≡ true
      → command_acknowledges m ≡ true → transfer_to max3420e_spi c (m ∷ bs) ≡ set_ackstat (fifo_copied w c bs)
  transfer_acknowledges c m bs here writes sets =
      transfer_copies c m bs here writes ∙ ap (λ (t : Bool). fifo_copied w (cond t (set_ackstat c) c) bs) sets ∙ l.apart c bs

  -- ---- where nothing is stored: at the limit, while the buffer is the chip's, by an empty burst

  ignored : (c : Chip) (bs : List ℕ) → limit_of (w.chips c) ≤ (w.state c).position → fifo_copied w c bs ≡ c
  ignored c bs full =
      ap (w.put c) (copied_is_stored (w.start c) (limit_of (w.chips c)) bs (w.state c)
      ∙ stores_none (w.start c) (limit_of (w.chips c)) bs (w.state c) full) ∙ l.kept c

  pub ignored_at_64 : (c : Chip) (bs : List ℕ) → 64 ≤ (w.state c).position → fifo_copied w c bs ≡ c
  ignored_at_64 c bs full = ignored c bs (omega (arith, at_most_64 (w.chips c), full))

  pub ignored_while_chips : (c : Chip) (bs : List ℕ) → w.chips c ≡ true → fifo_copied w c bs ≡ c
  ignored_while_chips c bs chips = ignored c bs (rw chips (omega arith))

  pub empty_burst : (c : Chip) → fifo_copied w c [] ≡ c
  unfolding burst_to
  empty_burst c = sym (copied_at_once c [])

  -- ---- how far the write position moves: by the bytes stored, not by those sent

  pub position_after : (c : Chip) (bs : List ℕ) → w.chips c ≡ false
      → (w.state (fifo_copied w c bs)).position ≡ (w.state c).position + min (64 - (w.state c).position) (length bs)
  position_after c bs free =
      let p = (w.state c).position in
      ap (λ (s : Filling). s.position) (l.stands c (copied_to (w.start c) (limit_of (w.chips c)) (w.state c) bs))
      ∙ ap (λ (t : Bool). p + length (take (limit_of t - p) bs)) free ∙ ap (λ (n : ℕ). p + n) (length-take (64 - p) bs)
