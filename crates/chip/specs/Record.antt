-- The record at power-on, its registers and its flags as lists, and what its control registers read. Document 01, "The record"; 000,
-- register map.
use Rattle.std.specs.Prelude.{List, [], ◌∷◌, ℕ, ◌-◌, get_or, replicate}
use Rattle.ring.specs.Ring.{empty_ring, oldest_count}
use Rattle.chip.specs.Mask.{available_irqs}
use Rattle.chip.specs.declared.Registers.{Registers}
use Rattle.chip.specs.declared.Chip.{Chip}

-- ---- the registers as a list

-- what R9 to R20 hold, R9 first; R18 reads 1 (h)
abbrev pub bytes_of : Registers → List ℕ
bytes_of g =
    g.epstalls ∷ g.clrtogs ∷ g.epirq ∷ g.epien ∷ g.usbirq ∷ g.usbien ∷ g.usbctl ∷ g.cpuctl ∷ g.pinctl ∷ 1 ∷ g.fnaddr ∷ g.iopins
    ∷ []

-- and back: place 9 is R18, which is not stored
abbrev pub of_bytes : List ℕ → Registers
of_bytes xs = record {
  epstalls = get_or xs 0 0;
  clrtogs = get_or xs 1 0;
  epirq = get_or xs 2 0;
  epien = get_or xs 3 0;
  usbirq = get_or xs 4 0;
  usbien = get_or xs 5 0;
  usbctl = get_or xs 6 0;
  cpuctl = get_or xs 7 0;
  pinctl = get_or xs 8 0;
  fnaddr = get_or xs 10 0;
  iopins = get_or xs 11 0;
}

-- what R5 to R20 read: R5, R7 and R8 the last count, R6 that of the older waiting packet or 0
abbrev pub control_registers : Chip → List ℕ
control_registers c = c.ep0.count ∷ oldest_count 2 c.ep1.ring ∷ c.ep2.count ∷ c.ep3.count ∷ bytes_of c.registers

-- what register n reads, n from 5 on; above R20 0
abbrev pub control_register : Chip → ℕ → ℕ
control_register c n = get_or (control_registers c) (n - 5) 0

-- ---- the flags as a list, in their order

abbrev pub flags_of : Chip → List ℕ
flags_of c =
    c.ep0.armed ∷ c.ep0.intoggle ∷ c.ep0.outtoggle ∷ c.ep0.current ∷ c.ep1.toggle ∷ c.ep2.toggle ∷ c.ep3.armed ∷
    c.ep3.toggle ∷ c.power.vbus ∷ c.power.oscok ∷ []

-- ---- power-on

-- the IN buffers are available: IN0BAVIRQ, IN2BAVIRQ and IN3BAVIRQ are 1 (000 pages 40, 42, 44), all else 0
abbrev pub power_on_registers : Registers
power_on_registers = of_bytes (0 ∷ 0 ∷ available_irqs ∷ [])

-- every buffer byte, count and position is 0 and every flag off
unfoldable pub power_on_chip : Chip
power_on_chip = record {
  ep0 = record {
    bytes = replicate 64 0;
    setup = replicate 8 0;
    count = 0;
    armed = 0;
    readpos = 0;
    writepos = 0;
    setuppos = 0;
    intoggle = 0;
    outtoggle = 0;
    current = 0;
  };
  ep1 = record { ring = empty_ring; readpos = 0; toggle = 0 };
  ep2 = record { ring = empty_ring; count = 0; writepos = 0; toggle = 0 };
  ep3 = record { bytes = replicate 64 0; count = 0; armed = 0; writepos = 0; toggle = 0 };
  registers = power_on_registers;
  power = record { vbus = 0; oscok = 0 };
}
