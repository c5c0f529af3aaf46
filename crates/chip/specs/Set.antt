-- The record with one part, or one register, replaced.
use Rattle.std.specs.Prelude.{ℕ, ◌-◌, set}
use Rattle.chip.specs.Record.{bytes_of, of_bytes}
use Rattle.chip.specs.declared.Endpoint0.{Endpoint0}
use Rattle.chip.specs.declared.Endpoint1.{Endpoint1}
use Rattle.chip.specs.declared.Endpoint2.{Endpoint2}
use Rattle.chip.specs.declared.Endpoint3.{Endpoint3}
use Rattle.chip.specs.declared.Registers.{Registers}
use Rattle.chip.specs.declared.Power.{Power}
use Rattle.chip.specs.declared.Chip.{Chip}

-- ---- one part

abbrev pub set_ep0 : Endpoint0 → Chip → Chip
set_ep0 x c = record { ep0 = x; ep1 = c.ep1; ep2 = c.ep2; ep3 = c.ep3; registers = c.registers; power = c.power }

abbrev pub set_ep1 : Endpoint1 → Chip → Chip
set_ep1 x c = record { ep0 = c.ep0; ep1 = x; ep2 = c.ep2; ep3 = c.ep3; registers = c.registers; power = c.power }

abbrev pub set_ep2 : Endpoint2 → Chip → Chip
set_ep2 x c = record { ep0 = c.ep0; ep1 = c.ep1; ep2 = x; ep3 = c.ep3; registers = c.registers; power = c.power }

abbrev pub set_ep3 : Endpoint3 → Chip → Chip
set_ep3 x c = record { ep0 = c.ep0; ep1 = c.ep1; ep2 = c.ep2; ep3 = x; registers = c.registers; power = c.power }

abbrev pub set_registers : Registers → Chip → Chip
set_registers x c = record { ep0 = c.ep0; ep1 = c.ep1; ep2 = c.ep2; ep3 = c.ep3; registers = x; power = c.power }

abbrev pub set_power : Power → Chip → Chip
set_power x c = record { ep0 = c.ep0; ep1 = c.ep1; ep2 = c.ep2; ep3 = c.ep3; registers = c.registers; power = x }

abbrev pub with_vbus : ℕ → Power → Power
with_vbus x p = record { vbus = x; oscok = p.oscok }

abbrev pub with_oscok : ℕ → Power → Power
with_oscok x p = record { vbus = p.vbus; oscok = x }

-- ---- one register

-- register n of R9 to R20; R18 is constant
abbrev pub set_register : ℕ → ℕ → Chip → Chip
set_register n x c = set_registers (of_bytes (set (bytes_of c.registers) (n - 9) x)) c

abbrev pub set_epstalls : ℕ → Chip → Chip
set_epstalls = set_register 9

abbrev pub set_clrtogs : ℕ → Chip → Chip
set_clrtogs = set_register 10

abbrev pub set_epirq : ℕ → Chip → Chip
set_epirq = set_register 11

abbrev pub set_epien : ℕ → Chip → Chip
set_epien = set_register 12

abbrev pub set_usbirq : ℕ → Chip → Chip
set_usbirq = set_register 13

abbrev pub set_usbien : ℕ → Chip → Chip
set_usbien = set_register 14

abbrev pub set_usbctl : ℕ → Chip → Chip
set_usbctl = set_register 15

abbrev pub set_cpuctl : ℕ → Chip → Chip
set_cpuctl = set_register 16

abbrev pub set_pinctl : ℕ → Chip → Chip
set_pinctl = set_register 17

abbrev pub set_fnaddr : ℕ → Chip → Chip
set_fnaddr = set_register 19

abbrev pub set_iopins : ℕ → Chip → Chip
set_iopins = set_register 20
