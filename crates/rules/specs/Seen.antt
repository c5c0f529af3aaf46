-- When the bus is seen, and when a transaction is heard (document 01, "The bus side").
use Rattle.std.specs.Prelude.{Bool, not, ◌&&◌, ◌||◌, ℕ, eqb}
use Rattle.bits.specs.Bit.{lacks, has}
use Rattle.bits.specs.Flag.{is_on}
use Rattle.chip.specs.declared.Power.{Power}
use Rattle.chip.specs.declared.Chip.{Chip}
use Rattle.chip.specs.Mask.{chipres, connect, vbgate}

-- what decides it: R15, the VBUS level and the oscillator flag
pub record Connection : Type 0 where
  pub usbctl : ℕ
  pub power : Power

abbrev pub connection_of : Chip → Connection
connection_of c = record { usbctl = c.registers.usbctl; power = c.power }

-- the oscillator is stable, CHIPRES=0 (000 page 4), CONNECT=1 (5), and VBGATE=0 or VBUS is on (76)
abbrev pub seen : Connection → Bool
seen l =
    ((is_on l.power.oscok && lacks l.usbctl chipres) && has l.usbctl connect) && (lacks l.usbctl vbgate || is_on l.power.vbus)

-- a transaction is heard: seen, undamaged, at the chip's address (000 page 26); otherwise silence, and no change
abbrev pub heard : Chip → Bool → ℕ → Bool
heard c damaged address = (seen (connection_of c) && not damaged) && eqb address c.registers.fnaddr
