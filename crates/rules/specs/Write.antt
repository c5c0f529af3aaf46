-- What a byte written to each register does (document 01, "Writes"), and the table of these rules, R0 first.
use Rattle.std.specs.Prelude.{Bool, cond, ◌||◌, List, [], ◌∷◌, ℕ, ◌+◌, ltb, leb, set}
use Rattle.std.specs.Int.Bits.{bit_and}
use Rattle.bits.specs.Bit.{has, raised, lowered, stored, masked, rises}
use Rattle.bits.specs.First.{unless}
use Rattle.bits.specs.Flag.{is_on}
use Rattle.ring.specs.Ring.{full, store_byte, arm_next, release_oldest}
use Rattle.chip.specs.declared.Endpoint0.{Endpoint0}
use Rattle.chip.specs.declared.Endpoint1.{Endpoint1}
use Rattle.chip.specs.declared.Endpoint2.{Endpoint2}
use Rattle.chip.specs.declared.Endpoint3.{Endpoint3}
use Rattle.chip.specs.declared.Chip.{Chip}
use Rattle.chip.specs.Mask.{others_than, count_bits, epstalls_bits, disable_bits, ctgep1out, ctgep2in, ctgep3in, cleared_epirqs}
use Rattle.chip.specs.Mask.{out1davirq, in0bavirq, in2bavirq, in3bavirq, out0davirq, epien_bits, usbctl_bits, chipres, ie, inak_bits}
use Rattle.chip.specs.Mask.{pin_bits, input_bits, output_bits}
use Rattle.chip.specs.Set.{set_ep0, set_ep1, set_ep2, set_ep3, set_epstalls, set_clrtogs, set_epirq, set_epien, set_usbirq, set_usbien}
use Rattle.chip.specs.Set.{set_usbctl, set_cpuctl, set_pinctl, set_iopins}
use Rattle.reset.specs.declared.Reset.TheVariants.{ChipReset}
use Rattle.reset.specs.Reset.{chip_after}

abbrev pub WriteRule : Type 0
WriteRule = Chip → ℕ → Chip

-- bits of R11 become 1, become 0
abbrev pub raise_epirq : ℕ → Chip → Chip
raise_epirq m c = set_epirq (raised m c.registers.epirq) c

abbrev pub lower_epirq : ℕ → Chip → Chip
lower_epirq m c = set_epirq (lowered m c.registers.epirq) c

-- ---- R0, R2, R3: the byte is stored at the write position, which moves on; ignored at 64, and while the buffer is the chip's

abbrev pub store_fifo : {S : Type 0} → ℕ → Bool → S → S → S
store_fifo position chips c stored = unless (leb 64 position ∷ chips ∷ []) c stored

-- endpoint 0's buffer is the chip's while it is armed or OUT0DAVIRQ=1
abbrev pub ep0_busy : Chip → Bool
ep0_busy c = is_on c.ep0.armed || has c.registers.epirq out0davirq

abbrev pub ep0_stored : Endpoint0 → ℕ → Endpoint0
ep0_stored e b = record {
  bytes = set e.bytes e.writepos b;
  setup = e.setup;
  count = e.count;
  armed = e.armed;
  readpos = e.readpos;
  writepos = e.writepos + 1;
  setuppos = e.setuppos;
  intoggle = e.intoggle;
  outtoggle = e.outtoggle;
  current = e.current;
}

-- R0, EP0FIFO (000 page 10)
abbrev pub write_ep0fifo : WriteRule
write_ep0fifo c b = store_fifo c.ep0.writepos (ep0_busy c) c (set_ep0 (ep0_stored c.ep0 b) c)

abbrev pub ep2_stored : Endpoint2 → ℕ → Endpoint2
ep2_stored e b = record { ring = store_byte 2 e.ring e.writepos b; count = e.count; writepos = e.writepos + 1; toggle = e.toggle }

-- R2, EP2INFIFO (000 page 18): it writes to the next buffer to be armed; the chip's while two wait
abbrev pub write_ep2infifo : WriteRule
write_ep2infifo c b = store_fifo c.ep2.writepos (full 2 c.ep2.ring) c (set_ep2 (ep2_stored c.ep2 b) c)

abbrev pub ep3_stored : Endpoint3 → ℕ → Endpoint3
ep3_stored e b = record {
  bytes = set e.bytes e.writepos b;
  count = e.count;
  armed = e.armed;
  writepos = e.writepos + 1;
  toggle =
      e.toggle;
}

-- R3, EP3INFIFO (000 page 22): the chip's while it is armed (h)
abbrev pub write_ep3infifo : WriteRule
write_ep3infifo c b = store_fifo c.ep3.writepos (is_on c.ep3.armed) c (set_ep3 (ep3_stored c.ep3 b) c)

-- ---- R5, R7, R8: a count over 64, or a buffer that is the chip's, is ignored (h); else the first n bytes, as the buffer stands, are
-- ---- armed, the write position becomes 0, and the matching BAV bit clears

abbrev pub arm_buffer : {S : Type 0} → ℕ → Bool → S → S → S
arm_buffer n chips c armed = unless (ltb 64 n ∷ chips ∷ []) c armed

abbrev pub ep0_armed : Endpoint0 → ℕ → Endpoint0
ep0_armed e n = record {
  bytes = e.bytes;
  setup = e.setup;
  count = n;
  armed = 1;
  readpos = e.readpos;
  writepos = 0;
  setuppos = e.setuppos;
  intoggle = e.intoggle;
  outtoggle = e.outtoggle;
  current = e.current;
}

abbrev pub arm_ep0 : Chip → ℕ → Chip
arm_ep0 c n = arm_buffer n (ep0_busy c) c (lower_epirq in0bavirq (set_ep0 (ep0_armed c.ep0 n) c))

-- R5, EP0BC (000 pages 9, 40): bit 7 has no effect (decision 14)
abbrev pub write_ep0bc : WriteRule
write_ep0bc c b = arm_ep0 c (bit_and b count_bits)

abbrev pub ep2_armed : Endpoint2 → ℕ → Endpoint2
ep2_armed e n = record { ring = arm_next 2 e.ring n; count = n; writepos = 0; toggle = e.toggle }

-- IN2BAVIRQ clears only when two now wait; an arming that leaves room leaves it as it is (Ask 2)
abbrev pub in2bav_cleared : Chip → Chip
in2bav_cleared c = cond (full 2 c.ep2.ring) (lower_epirq in2bavirq c) c

-- R7, EP2INBC (000 pages 17, 42)
abbrev pub write_ep2inbc : WriteRule
write_ep2inbc c n = arm_buffer n (full 2 c.ep2.ring) c (in2bav_cleared (set_ep2 (ep2_armed c.ep2 n) c))

abbrev pub ep3_armed : Endpoint3 → ℕ → Endpoint3
ep3_armed e n = record { bytes = e.bytes; count = n; armed = 1; writepos = 0; toggle = e.toggle }

-- R8, EP3INBC (000 pages 21, 44)
abbrev pub write_ep3inbc : WriteRule
write_ep3inbc c n = arm_buffer n (is_on c.ep3.armed) c (lower_epirq in3bavirq (set_ep3 (ep3_armed c.ep3 n) c))

-- ---- control registers

-- R1, R4, R6, R18, R19, and 21 to 31
abbrev pub ignored : WriteRule
ignored c b = c

-- R9, EPSTALLS: bits 6..0 stored (000 pages 1, 59 to 64)
abbrev pub write_epstalls : WriteRule
write_epstalls c b = set_epstalls (bit_and b epstalls_bits) c

abbrev pub ep1_toggled : ℕ → Endpoint1 → Endpoint1
ep1_toggled t e = record { ring = e.ring; readpos = e.readpos; toggle = t }

abbrev pub ep2_toggled : ℕ → Endpoint2 → Endpoint2
ep2_toggled t e = record { ring = e.ring; count = e.count; writepos = e.writepos; toggle = t }

abbrev pub ep3_toggled : ℕ → Endpoint3 → Endpoint3
ep3_toggled t e = record { bytes = e.bytes; count = e.count; armed = e.armed; writepos = e.writepos; toggle = t }

-- a toggle that a 1 in its bit of R10 sets to DATA0
abbrev pub toggle_cleared : ℕ → ℕ → ℕ → ℕ
toggle_cleared m b t = cond (has b m) 0 t

-- R10, CLRTOGS: bits 7..5 stored (000 pages 12, 15, 19); a 1 in bits 4, 3, 2 sets that toggle to DATA0 and reads back 0 (6 to 8)
abbrev pub write_clrtogs : WriteRule
write_clrtogs c b =
    set_clrtogs (bit_and b disable_bits)
    (set_ep1 (ep1_toggled (toggle_cleared ctgep1out b c.ep1.toggle) c.ep1)
    (set_ep2 (ep2_toggled (toggle_cleared ctgep2in b c.ep2.toggle) c.ep2)
    (set_ep3 (ep3_toggled (toggle_cleared ctgep3in b c.ep3.toggle) c.ep3) c)))

-- the older waiting packet of endpoint 1, if any, is released, and R1's read position becomes 0 (decision 37)
abbrev pub ep1_released : Endpoint1 → Endpoint1
ep1_released e = record { ring = release_oldest 2 e.ring; readpos = 0; toggle = e.toggle }

-- OUT1DAVIRQ reads 1 again if another waits
abbrev pub out1dav_kept : Chip → Chip
out1dav_kept c = set_epirq (stored out1davirq (ltb 0 c.ep1.ring.waiting) c.registers.epirq) c

abbrev pub release : Chip → Chip
release c = out1dav_kept (set_ep1 (ep1_released c.ep1) c)

abbrev pub release_if : Bool → Chip → Chip
release_if t c = cond t (release c) c

-- R11, EPIRQ: a 1 clears SUDAVIRQ, OUT0DAVIRQ, IN0BAVIRQ (000 pages 66, 51, 40), IN2BAVIRQ and IN3BAVIRQ (002, Ask 2), and no packet
-- moves; in OUT1DAVIRQ it releases (000 page 53)
abbrev pub write_epirq : WriteRule
write_epirq c b = release_if (has b out1davirq) (lower_epirq (bit_and b cleared_epirqs) c)

-- R12, EPIEN: bits 5..0 (000 pages 39, 41, 43, 50, 52, 65)
abbrev pub write_epien : WriteRule
write_epien c b = set_epien (bit_and b epien_bits) c

-- R13, USBIRQ: a 1 clears (000 pages 3, 47, 49, 57, 69, 71, 73, 75)
abbrev pub write_usbirq : WriteRule
write_usbirq c b = set_usbirq (lowered b c.registers.usbirq) c

-- R14, USBIEN: all (000 pages 2, 46, 48, 56, 68, 70, 72, 74)
abbrev pub write_usbien : WriteRule
write_usbien c b = set_usbien b c

-- CHIPRES going 0 to 1 is, after the store, a chip reset and stops the oscillator (000 page 4)
abbrev pub reset_on_rise : ℕ → Chip → Chip
reset_on_rise before c = cond (rises chipres before c.registers.usbctl) (chip_after ChipReset c) c

-- R15, USBCTL: bits 7..2
abbrev pub write_usbctl : WriteRule
write_usbctl c b = reset_on_rise c.registers.usbctl (set_usbctl (bit_and b usbctl_bits) c)

-- R16, CPUCTL: bit 0 (000 page 38)
abbrev pub write_cpuctl : WriteRule
write_cpuctl c b = set_cpuctl (bit_and b ie) c

-- R17, PINCTL: a 1 clears bits 7..5 (000 pages 11, 16, 20); bits 4..0 stored (23, 35, 36, 45, 54)
abbrev pub write_pinctl : WriteRule
write_pinctl c b = set_pinctl (masked (bit_and inak_bits (others_than b)) (bit_and b pin_bits) c.registers.pinctl) c

-- R20, IOPINS: the low four stored (000 pages 27 to 34)
abbrev pub write_iopins : WriteRule
write_iopins c b = set_iopins (masked input_bits (bit_and b output_bits) c.registers.iopins) c

-- ---- the table

abbrev pub write_rules : List WriteRule
write_rules =
    write_ep0fifo ∷ ignored ∷ write_ep2infifo ∷ write_ep3infifo ∷ ignored ∷
    write_ep0bc ∷ ignored ∷ write_ep2inbc ∷ write_ep3inbc ∷ write_epstalls ∷
    write_clrtogs ∷ write_epirq ∷ write_epien ∷ write_usbirq ∷ write_usbien ∷
    write_usbctl ∷ write_cpuctl ∷ write_pinctl ∷ ignored ∷ ignored ∷ write_iopins ∷ []
