-- The firmware's record: the configuration, and two flags, remote wakeup and the halt of endpoint 3.
use Rattle.std.specs.Prelude.{Bool, not, ◌||◌, [], ◌∷◌, ℕ, eqb, leb}
use Rattle.bits.specs.Clauses.{clauses}
use Rattle.bits.specs.Flag.{is_on, is_flag}
use Rattle.request.specs.declared.Firmware.{Firmware}

-- power-on: 0, off, no halt
abbrev pub power_on_firmware : Firmware
power_on_firmware = record { configuration = 0; wakeup = 0; halted = 0 }

abbrev pub configured : Firmware → Bool
configured f = eqb f.configuration 1

-- the configuration is 0 or 1, each flag is 0 or 1 (ours, decision 30), and endpoint 3 is halted only in configuration 1
abbrev pub sound_firmware : Firmware → Bool
sound_firmware f =
    clauses (leb f.configuration 1 ∷ is_flag f.wakeup ∷ is_flag f.halted ∷ (not (is_on f.halted) || configured f) ∷ [])

abbrev pub set_configuration : ℕ → Firmware → Firmware
set_configuration v f = record { configuration = v; wakeup = f.wakeup; halted = f.halted }

abbrev pub set_wakeup : ℕ → Firmware → Firmware
set_wakeup v f = record { configuration = f.configuration; wakeup = v; halted = f.halted }

abbrev pub set_halted : ℕ → Firmware → Firmware
set_halted v f = record { configuration = f.configuration; wakeup = f.wakeup; halted = v }
