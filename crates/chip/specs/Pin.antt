-- The INT pin (document 01, last lines of "The bus side"; 000 pages 38, 45, 54).
use Rattle.refusal.specs.declared.Refusal.{Refusal}
use Rattle.std.specs.Prelude.{Bool, cond, ◌&&◌, ◌||◌, ℕ, Result, Ok, Err}
use Rattle.bits.specs.Bit.{has}
use Rattle.refusal.specs.Number.{refusal_number}
use Rattle.refusal.specs.declared.Refusal.TheVariants.{Unsound}
use Rattle.chip.specs.Mask.{ie, intlevel, posint}
use Rattle.chip.specs.Sound.{sound_chip}
use Rattle.chip.specs.declared.Registers.{Registers}
use Rattle.chip.specs.declared.Chip.{Chip}
use Rattle.chip.specs.declared.Pin.{Pin}
use Rattle.chip.specs.declared.Pin.TheVariants.{Low, High, Open}

-- IE=1 and some IRQ bit has its enable bit set, among 14: six of R11 and R12, eight of R13 and R14
abbrev pub interrupt_active : Registers → Bool
interrupt_active g = has g.cpuctl ie && (has g.epirq g.epien || has g.usbirq g.usbien)

-- level mode: active is low, inactive open; edge mode: low or high by POSINT, and the other level when inactive
abbrev pub level_of : ℕ → Bool → Pin
level_of pinctl active =
    cond (has pinctl intlevel) (cond active Low Open) (cond (has pinctl posint) (cond active High Low) (cond active Low High))

unfoldable pub pin_of : Registers → Pin
pin_of g = level_of g.pinctl (interrupt_active g)

-- ---- the answer to a query

-- refusal 1 for a record that is not sound
unfoldable pub pin_reply : Chip → Result Pin Refusal
pin_reply c = cond (sound_chip c) (Ok (pin_of c.registers)) (Err Unsound)

-- ---- numbers

-- the pin's value outside: low, high, open
abbrev pub pin_number : Pin → ℕ
pin_number Low = 0
pin_number High = 1
pin_number Open = 2

-- the number of refusal; 0 is none
abbrev pub pin_refusal : Result Pin Refusal → ℕ
pin_refusal (Err r) = refusal_number r
pin_refusal (Ok p) = 0

-- the pin's value; 3 is none
abbrev pub pin_value : Result Pin Refusal → ℕ
pin_value (Err r) = 3
pin_value (Ok p) = pin_number p
