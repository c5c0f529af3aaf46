-- The reset lines of R5 to R20, one row for each, and the one rule that applies them (document 01, "Reset lines").
-- The values are those on each bit's page of 000: "POR", "Chip Reset", "Bus Reset".
use Rattle.std.specs.Prelude.{List, [], ◌∷◌, ℕ, suc, ◌+◌, ◌-◌, length, get_or}
use Rattle.bits.specs.Bit.{masked}
use Rattle.chip.specs.Mask.{available_irqs, uresdnirq, uresirq, uresdnie, uresie, usbctl_bits, ie, pin_bits, input_bits, output_bits}
use Rattle.reset.specs.declared.Reset.{Reset}
use Rattle.reset.specs.declared.Reset.TheVariants.{PowerOn, ChipReset, BusReset}
use Rattle.reset.specs.declared.Line.{Line}
use Rattle.reset.specs.declared.Row.{Row}

-- a line: the bits that keep their value, the bits that become 1; every other becomes 0
abbrev pub line : ℕ → ℕ → Line
line k v = record { keep = k; value = v }

-- a row: power-on, chip reset, bus reset
abbrev pub row : Line → Line → Line → Row
row p c b = record { poweron = p; chipreset = c; busreset = b }

abbrev pub zero : Line
zero = line 0 0

abbrev pub cleared : Row
cleared = row zero zero zero

abbrev pub rows : List Row
rows =
    -- R5 EP0BC (page 9), R6 EP1OUTBC (13), R7 EP2INBC (17), R8 EP3INBC (21)
    cleared ∷ cleared ∷ cleared ∷ cleared ∷
    -- R9 EPSTALLS (1, 59 to 64), R10 CLRTOGS (6 to 8, 12, 15, 19)
    cleared ∷ cleared ∷
    -- R11 EPIRQ: IN0BAVIRQ, IN2BAVIRQ, IN3BAVIRQ 1 at all three (40, 42, 44), the others 0 (51, 53, 66)
    row (line 0 available_irqs) (line 0 available_irqs) (line 0 available_irqs) ∷
    -- R12 EPIEN (39, 41, 43, 50, 52, 65)
    cleared ∷
    -- R13 USBIRQ: at a bus reset URESDNIRQ stays (71) and URESIRQ becomes 1 (73); all others 0
    row zero zero (line uresdnirq uresirq) ∷
    -- R14 USBIEN: at a bus reset URESDNIE (70) and URESIE (72) stay; all others 0
    row zero zero (line (uresdnie + uresie) 0) ∷
    -- R15 USBCTL: all six bits stay at chip and bus reset (4, 5, 37, 55, 58, 76)
    row zero (line usbctl_bits 0) (line usbctl_bits 0) ∷
    -- R16 CPUCTL: IE stays at a bus reset only (38)
    row zero zero (line ie 0) ∷
    -- R17 PINCTL: FDUPSPI, INTLEVEL, POSINT, GPXB and GPXA stay (23, 35, 36, 45, 54), the three NAK bits become 0 (11, 16, 20)
    row zero (line pin_bits 0) (line pin_bits 0) ∷
    -- R18 REVISION reads 1 (h)
    row (line 0 0x01) (line 0 0x01) (line 0 0x01) ∷
    -- R19 FNADDR (26)
    cleared ∷
    -- R20 IOPINS: outputs (31 to 34) and input levels (27 to 30, decision 3) stay, 0 at power-on
    row zero (line (input_bits + output_bits) 0) (line (input_bits + output_bits) 0) ∷ []

-- the registers with a row: R5 and those up to, not with, this one
abbrev pub past_rows : ℕ
past_rows = 5 + length rows

-- the row of register n, n from 5 to 20
abbrev pub row_of : ℕ → Row
row_of n = get_or rows (n - 5) cleared

abbrev pub line_of : Row → Reset → Line
line_of r PowerOn = r.poweron
line_of r ChipReset = r.chipreset
line_of r BusReset = r.busreset

-- what register n holds after a reset, where it held x
abbrev pub register_after : Reset → ℕ → ℕ → ℕ
register_after k n x = masked (line_of (row_of n) k).keep (line_of (row_of n) k).value x

-- what each of a list of registers, from register n on, holds after it
abbrev pub all_after : Reset → ℕ → List ℕ → List ℕ
all_after k n [] = []
all_after k n (x ∷ xs) = register_after k n x ∷ all_after k (suc n) xs
