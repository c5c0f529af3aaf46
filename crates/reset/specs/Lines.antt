-- What document 01 names of the reset lines ("Seen there").
use Rattle.std.specs.Prelude.{◌≡◌, List, [], ◌∷◌, ℕ}
use Rattle.bits.specs.Bit.{bit}
use Rattle.chip.specs.declared.Chip.{Chip}
use Rattle.chip.specs.Record.{control_register}
use Rattle.reset.specs.declared.Reset.{Reset}
use Rattle.reset.specs.declared.Reset.TheVariants.{PowerOn, ChipReset, BusReset}
use Rattle.reset.specs.Reset.{chip_after}

-- what becomes of a bit
pub data Fate : Type 0 where
  one kept : Fate

abbrev pub fate_of : Fate → ℕ → ℕ
fate_of one x = 1
fate_of kept x = x

-- at this reset, bit b of register n becomes 1 or keeps its value
pub record Claim : Type 0 where
  pub reset : Reset
  pub register : ℕ
  pub bit_number : ℕ
  pub becomes : Fate

abbrev pub claim : Reset → ℕ → ℕ → Fate → Claim
claim k n b o = record { reset = k; register = n; bit_number = b; becomes = o }

-- the claim holds of every record
abbrev pub Holds : Claim → Type 0
Holds l =
    (c : Chip) → bit (control_register (chip_after l.reset c) l.register) l.bit_number
    ≡ fate_of l.becomes (bit (control_register c l.register) l.bit_number)

abbrev pub seen_there : List Claim
seen_there =
    -- IN0BAVIRQ, IN2BAVIRQ and IN3BAVIRQ become 1 at all three
    claim PowerOn 11 0 one ∷ claim ChipReset 11 0 one ∷ claim BusReset 11 0 one ∷
    claim PowerOn 11 3 one ∷ claim ChipReset 11 3 one ∷ claim BusReset 11 3 one ∷
    claim PowerOn 11 4 one ∷ claim ChipReset 11 4 one ∷ claim BusReset 11 4 one ∷
    -- IE, FDUPSPI, CONNECT and PWRDOWN keep their value at a bus reset
    claim BusReset 16 0 kept ∷ claim BusReset 17 4 kept ∷ claim BusReset 15 3 kept ∷ claim BusReset 15 4 kept ∷
    -- all but IE also at chip reset
    claim ChipReset 17 4 kept ∷ claim ChipReset 15 3 kept ∷ claim ChipReset 15 4 kept ∷
    -- URESDNIRQ, URESDNIE and URESIE keep theirs at a bus reset (decision 7), where URESIRQ becomes 1
    claim BusReset 13 7 kept ∷ claim BusReset 14 7 kept ∷ claim BusReset 14 3 kept ∷ claim BusReset 13 3 one ∷ []
