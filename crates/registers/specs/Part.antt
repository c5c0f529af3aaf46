-- R11 after a packet is armed at endpoint 2 and after one is released at endpoint 1, by how many now wait; the rules of the
-- registers that change no other part of the record (document 01, "Writes").
use Rattle.std.specs.Prelude.{cond, List, [], ◌∷◌, ℕ, ltb, leb, get_or}
use Rattle.bits.specs.Bit.{lowered, stored}
use Rattle.chip.specs.Mask.{in2bavirq, out1davirq}
use Rattle.chip.specs.Record.{bytes_of}
use Rattle.chip.specs.declared.Registers.{Registers}
use Rattle.rules.specs.Write.{WriteRule, ignored, write_epstalls, write_epien, write_usbirq, write_usbien, write_cpuctl, write_pinctl}
use Rattle.rules.specs.Write.{write_iopins}

-- IN2BAVIRQ clears only when two now wait
abbrev pub armed_to : ℕ → ℕ → ℕ
armed_to epirq waiting = cond (leb 2 waiting) (lowered in2bavirq epirq) epirq

-- OUT1DAVIRQ reads 1 again if another waits
abbrev pub released_to : ℕ → ℕ → ℕ
released_to epirq waiting = stored out1davirq (ltb 0 waiting) epirq

-- R9, R12 to R14, R16, R17 and R20
abbrev pub plain_rules : List WriteRule
plain_rules =
    ignored ∷ ignored ∷ ignored ∷ ignored ∷ ignored ∷ ignored ∷ ignored ∷ ignored ∷ ignored ∷ write_epstalls ∷
    ignored ∷ ignored ∷ write_epien ∷ write_usbirq ∷ write_usbien ∷ ignored ∷ write_cpuctl ∷ write_pinctl ∷ ignored ∷ ignored ∷ write_iopins ∷ []

abbrev pub plain_rule : ℕ → WriteRule
plain_rule n = get_or plain_rules n ignored

-- what R9 to R20 read; others 0
abbrev pub plain_byte : Registers → ℕ → ℕ
plain_byte g n = get_or (0 ∷ 0 ∷ 0 ∷ 0 ∷ 0 ∷ 0 ∷ 0 ∷ 0 ∷ 0 ∷ bytes_of g) n 0
