-- What a reset leaves, of any record: power-on is the power-on record; every reset gives a sound record in which nothing
-- waits, if what the chip is supplied with is sound; which bytes become 0.
use mathlib.Core.Path.{◌≡◌, refl}
use mathlib.Core.Bool.{true}
use mathlib.Core.List.{[]}
use Prim.Native.Nat.{◌≤◌}
use lib.ListN.{replicate}
use lib.Bits.{and_zero_r}
use borrow.Author.Tests.{le-leb}
use Rattle.bits.proofs.Mask.{lacks_masked_cleared}
use Rattle.ring.specs.Ring.{queue}
use Rattle.chip.specs.declared.Chip.{Chip}
use Rattle.chip.specs.Record.{power_on_chip}
use Rattle.chip.specs.Sound.{sound_chip}
use Rattle.reset.specs.declared.Reset.{Reset}
use Rattle.reset.specs.declared.Reset.TheVariants.{PowerOn, ChipReset, BusReset}
use Rattle.reset.specs.Reset.{wipes, chip_after}

-- power-on forgets whatever the record held
pub power_on_forgets : (c : Chip) → chip_after PowerOn c ≡ power_on_chip
unfolding power_on_chip
power_on_forgets c = simp and_zero_r

-- every reset of every record is sound, if what it is supplied with is: the two flags that a reset may keep
pub reset_sound : (k : Reset) (c : Chip) → c.power.vbus ≤ 1 → c.power.oscok ≤ 1 → sound_chip (chip_after k c) ≡ true
unfolding sound_chip
reset_sound PowerOn c vbus oscok = simp and_zero_r
reset_sound ChipReset c vbus oscok = simp (
  and_zero_r,
  lacks_masked_cleared 0xfc 0 c.registers.usbctl 0x03 refl refl,
  le-leb c.power.vbus 1 vbus,
)
reset_sound BusReset c vbus oscok = simp (
  and_zero_r,
  lacks_masked_cleared 0xfc 0 c.registers.usbctl 0x03 refl refl,
  lacks_masked_cleared 0x01 0 c.registers.cpuctl 0xfe refl refl,
  le-leb c.power.vbus 1 vbus,
  le-leb c.power.oscok 1 oscok,
)

pub power_on_sound : sound_chip power_on_chip ≡ true
unfolding sound_chip power_on_chip
power_on_sound = refl

-- nothing waits
pub reset_empties : (k : Reset) (c : Chip)
    → (queue 2 (chip_after k c).ep1.ring ≡ []) × (queue 2 (chip_after k c).ep2.ring ≡ []) × ((chip_after k c).ep0.armed ≡ 0) ×
    ((chip_after k c).ep3.armed ≡ 0)
reset_empties PowerOn c = (refl, refl, refl, refl)
reset_empties ChipReset c = (refl, refl, refl, refl)
reset_empties BusReset c = (refl, refl, refl, refl)

-- buffer bytes become 0 at power-on and chip reset
pub record Wiped (c : Chip) : Type 0 where
  pub ep0 : c.ep0.bytes ≡ replicate 64 0
  pub ep1 : c.ep1.ring.bytes ≡ replicate 128 0
  pub ep2 : c.ep2.ring.bytes ≡ replicate 128 0
  pub ep3 : c.ep3.bytes ≡ replicate 64 0

pub reset_wipes : (k : Reset) (c : Chip) → wipes k ≡ true → Wiped (chip_after k c)
reset_wipes k c h = record { ep0 = rw h; ep1 = rw h; ep2 = rw h; ep3 = rw h }

-- and stay at a bus reset
pub bus_reset_keeps : (c : Chip)
    → ((chip_after BusReset c).ep0.bytes ≡ c.ep0.bytes) × ((chip_after BusReset c).ep1.ring.bytes ≡ c.ep1.ring.bytes)
    × ((chip_after BusReset c).ep2.ring.bytes ≡ c.ep2.ring.bytes) × ((chip_after BusReset c).ep3.bytes ≡ c.ep3.bytes)
bus_reset_keeps c = (refl, refl, refl, refl)

-- but SUDFIFO, which becomes 0 at all three (decision 1)
pub reset_clears_setup : (k : Reset) (c : Chip) → (chip_after k c).ep0.setup ≡ replicate 8 0
reset_clears_setup k c = refl
