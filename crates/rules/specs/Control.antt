-- Control transfers: SETUP, and the stage that an OUT or an IN at endpoint 0 belongs to (document 01, "The bus side"; 000 pages 64,
-- 66, 67).
use Rattle.std.specs.Prelude.{Bool, not, ◌&&◌, List, ℕ, ◌+◌, ◌*◌, eqb, get_or}
use Rattle.bits.specs.Bit.{has, lowered, masked}
use Rattle.chip.specs.declared.Endpoint0.{Endpoint0}
use Rattle.chip.specs.declared.Chip.{Chip}
use Rattle.chip.specs.Mask.{others_than, setup_stalls, sudavirq, in0bavirq, out0davirq}
use Rattle.chip.specs.Set.{set_ep0, set_epstalls, set_epirq}

-- ---- SETUP (000 pages 66, 67): always ACK

-- bytes to SUDFIFO, R4's and both R0 positions 0, EP0 disarmed, both toggles DATA1 (h); a SETUP is current (decision 2)
abbrev pub ep0_setup : Endpoint0 → List ℕ → Endpoint0
ep0_setup e vs = record {
  bytes = e.bytes;
  setup = vs;
  count = e.count;
  armed = 0;
  readpos = 0;
  writepos = 0;
  setuppos = 0;
  intoggle = 1;
  outtoggle = 1;
  current = 1;
}

-- SUDAVIRQ=1, IN0BAVIRQ=1 and OUT0DAVIRQ=0; ACKSTAT, STLSTAT, STLEP0IN and STLEP0OUT 0 (000 pages 1, 59, 60, 64)
abbrev pub setup_to : Chip → List ℕ → Chip
setup_to c vs =
    set_epirq (masked (others_than out0davirq) (sudavirq + in0bavirq) c.registers.epirq)
    (set_epstalls (lowered setup_stalls c.registers.epstalls) (set_ep0 (ep0_setup c.ep0 vs) c))

-- ---- the stages

abbrev pub setup_byte : Chip → ℕ → ℕ
setup_byte c i = get_or c.ep0.setup i 0

abbrev pub w_length : Chip → ℕ
w_length c = setup_byte c 6 + 256 * setup_byte c 7

-- a transfer reads if bit 7 of byte 0 is 1 and wLength isn't 0: IN is data, OUT is status; otherwise the other way round
abbrev pub reading : Chip → Bool
reading c = has (setup_byte c 0) 0x80 && not (eqb (w_length c) 0)

-- bytes 0, 1 are 00 05 with wLength 0: SET_ADDRESS
abbrev pub sets_address : Chip → Bool
sets_address c = (eqb (setup_byte c 0) 0x00 && eqb (setup_byte c 1) 0x05) && eqb (w_length c) 0
