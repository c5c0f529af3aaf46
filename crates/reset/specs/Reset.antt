-- The three resets of the whole record (document 01, "Reset lines"). Registers and counts go by the table; all resets
-- empty the waiting packets and set positions to 0 and toggles to DATA0 (h: no SETUP is then current).
use Rattle.std.specs.Prelude.{Bool, true, false, cond, List, ℕ, replicate}
use Rattle.ring.specs.declared.Ring.{Ring}
use Rattle.ring.specs.Ring.{empty_ring, drained}
use Rattle.chip.specs.declared.Endpoint0.{Endpoint0}
use Rattle.chip.specs.declared.Endpoint1.{Endpoint1}
use Rattle.chip.specs.declared.Endpoint2.{Endpoint2}
use Rattle.chip.specs.declared.Endpoint3.{Endpoint3}
use Rattle.chip.specs.declared.Registers.{Registers}
use Rattle.chip.specs.declared.Power.{Power}
use Rattle.chip.specs.declared.Chip.{Chip}
use Rattle.chip.specs.Record.{bytes_of, of_bytes}
use Rattle.reset.specs.declared.Reset.{Reset}
use Rattle.reset.specs.declared.Reset.TheVariants.{PowerOn, ChipReset, BusReset}
use Rattle.reset.specs.Table.{register_after, all_after}

-- buffer bytes become 0 at power-on and chip reset, and stay at a bus reset
abbrev pub wipes : Reset → Bool
wipes PowerOn = true
wipes ChipReset = true
wipes BusReset = false

abbrev pub bytes_after : Reset → ℕ → List ℕ → List ℕ
bytes_after k n bytes = cond (wipes k) (replicate n 0) bytes

abbrev pub ring_after : Reset → Ring → Ring
ring_after k r = cond (wipes k) empty_ring (drained r)

-- SUDFIFO becomes 0 at all three (000 page 67; decision 1)
abbrev pub ep0_after : Reset → Endpoint0 → Endpoint0
ep0_after k e = record {
  bytes = bytes_after k 64 e.bytes;
  setup = replicate 8 0;
  count = register_after k 5 e.count;
  armed = 0;
  readpos = 0;
  writepos = 0;
  setuppos = 0;
  intoggle = 0;
  outtoggle = 0;
  current = 0;
}

abbrev pub ep1_after : Reset → Endpoint1 → Endpoint1
ep1_after k e = record { ring = ring_after k e.ring; readpos = 0; toggle = 0 }

abbrev pub ep2_after : Reset → Endpoint2 → Endpoint2
ep2_after k e = record { ring = ring_after k e.ring; count = register_after k 7 e.count; writepos = 0; toggle = 0 }

abbrev pub ep3_after : Reset → Endpoint3 → Endpoint3
ep3_after k e = record {
  bytes = bytes_after k 64 e.bytes;
  count = register_after k 8 e.count;
  armed = 0;
  writepos = 0;
  toggle = 0;
}

-- R9 to R20 by the one rule
abbrev pub registers_after : Reset → Registers → Registers
registers_after k g = of_bytes (all_after k 9 (bytes_of g))

-- the VBUS level is 0 at power-on and kept otherwise
abbrev pub vbus_after : Reset → ℕ → ℕ
vbus_after PowerOn x = 0
vbus_after ChipReset x = x
vbus_after BusReset x = x

-- the oscillator flag is 0 at power-on and chip reset, kept at bus reset (h)
abbrev pub oscok_after : Reset → ℕ → ℕ
oscok_after PowerOn x = 0
oscok_after ChipReset x = 0
oscok_after BusReset x = x

abbrev pub power_after : Reset → Power → Power
power_after k p = record { vbus = vbus_after k p.vbus; oscok = oscok_after k p.oscok }

abbrev pub chip_after : Reset → Chip → Chip
chip_after k c = record {
  ep0 = ep0_after k c.ep0;
  ep1 = ep1_after k c.ep1;
  ep2 = ep2_after k c.ep2;
  ep3 = ep3_after k c.ep3;
  registers = registers_after k c.registers;
  power = power_after k c.power;
}
