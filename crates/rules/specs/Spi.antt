-- The SPI side of the MAX3420E (document 01, "The SPI side"; 000, "Accessing the MAX3420E Registers" and pages 23 to 25).
use Rattle.std.specs.Prelude.{cond, ℕ, ◌+◌, ◌*◌, ltb, get_or}
use Rattle.std.specs.Int.Bits.{bit_and, bit_or}
use Rattle.bits.specs.Bit.{has, raised}
use Rattle.chip.specs.declared.Chip.{Chip}
use Rattle.chip.specs.Mask.{ackstat, epirq_bits, status_irqs, fdupspi}
use Rattle.chip.specs.Set.{set_epstalls}
use Rattle.model.specs.Spi.{Spi}
use Rattle.rules.specs.Write.{ignored, write_rules}
use Rattle.rules.specs.Read.{read_rule}

-- R0..R4 stay selected; R5..R20 step by one for each data byte and stick at R20
abbrev pub step_register : ℕ → ℕ
step_register n = cond (ltb n 5) n (cond (ltb n 20) (n + 1) n)

-- bit 0 of the command byte sets ACKSTAT (000 page 1)
abbrev pub set_ackstat : Chip → Chip
set_ackstat c = set_epstalls (raised ackstat c.registers.epstalls) c

-- reply byte 0: with FDUPSPI=1 bits 7..0 = SUSPIRQ, URESIRQ (bits 4, 3 of R13), SUDAVIRQ, IN3BAVIRQ, IN2BAVIRQ, OUT1DAVIRQ,
-- OUT0DAVIRQ, IN0BAVIRQ (bits 5..0 of R11); else 0 (h)
abbrev pub status_byte : Chip → ℕ
status_byte c =
    cond (has c.registers.pinctl fdupspi)
    (bit_or (bit_and c.registers.usbirq status_irqs * 8) (bit_and c.registers.epirq epirq_bits)) 0

abbrev pub max3420e_spi : Spi Chip
max3420e_spi = record {
  write = λ n. get_or write_rules n ignored;
  read = read_rule;
  step = step_register;
  acknowledge = set_ackstat;
  status = status_byte;
}
