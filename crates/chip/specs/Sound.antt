-- When a record is sound: every clause of document 01, "It is sound when" (decision 29). Ours, beyond the document's words: the
-- oldest packet of a ring is in one of its two buffers; bits 4..2 of R10, which read back 0, count as unused; every flag is 0 or 1.
use Rattle.std.specs.Prelude.{Bool, not, ◌||◌, List, [], ◌∷◌, ℕ, ltb, leb, drop}
use Rattle.std.specs.Bool.{beq}
use Rattle.bits.specs.Bit.{has, lacks}
use Rattle.bits.specs.Clauses.{clauses}
use Rattle.bits.specs.Flag.{is_on, flag_each}
use Rattle.ring.specs.Ring.{sound_ring}
use Rattle.chip.specs.Mask.{in2bavirq, in3bavirq, out1davirq, unused}
use Rattle.chip.specs.Record.{bytes_of, flags_of}
use Rattle.chip.specs.declared.Endpoint0.{Endpoint0}
use Rattle.chip.specs.declared.Endpoint1.{Endpoint1}
use Rattle.chip.specs.declared.Endpoint2.{Endpoint2}
use Rattle.chip.specs.declared.Endpoint3.{Endpoint3}
use Rattle.chip.specs.declared.Registers.{Registers}
use Rattle.chip.specs.declared.Chip.{Chip}

-- counts and positions are 0..64, SUDFIFO's position 0..8
abbrev pub sound_ep0 : Endpoint0 → Bool
sound_ep0 e = clauses (leb e.count 64 ∷ leb e.readpos 64 ∷ leb e.writepos 64 ∷ leb e.setuppos 8 ∷ [])

abbrev pub sound_ep1 : Endpoint1 → Bool
sound_ep1 e = clauses (sound_ring 2 e.ring ∷ leb e.readpos 64 ∷ [])

abbrev pub sound_ep2 : Endpoint2 → Bool
sound_ep2 e = clauses (sound_ring 2 e.ring ∷ leb e.count 64 ∷ leb e.writepos 64 ∷ [])

abbrev pub sound_ep3 : Endpoint3 → Bool
sound_ep3 e = clauses (leb e.count 64 ∷ leb e.writepos 64 ∷ [])

-- each number of a list lacks the bits of its mask
abbrev pub lack_each : List ℕ → List ℕ → List Bool
lack_each [] ms = []
lack_each (x ∷ xs) [] = []
lack_each (x ∷ xs) (m ∷ ms) = lacks x m ∷ lack_each xs ms

-- the bits that R9 to R20 do not have
abbrev pub unused_registers : List ℕ
unused_registers = drop 4 unused

-- unused bits are 0; FNADDR is at most 127, that is, bit 7 of R19 is unused
abbrev pub sound_registers : Registers → Bool
sound_registers g = clauses (lack_each (bytes_of g) unused_registers)

-- IN2BAVIRQ is 1 only if fewer than two wait, IN3BAVIRQ only if none does (Ask 2); OUT1DAVIRQ is 1 exactly if one or two do
abbrev pub sound_irqs : Chip → Bool
sound_irqs c =
    clauses
    ((lacks c.registers.epirq in2bavirq || ltb c.ep2.ring.waiting 2) ∷
    (lacks c.registers.epirq in3bavirq || not (is_on c.ep3.armed)) ∷
    beq (has c.registers.epirq out1davirq) (ltb 0 c.ep1.ring.waiting) ∷ [])

-- flags are 0 or 1; so 0..1 packets wait at endpoint 0 IN and at endpoint 3
abbrev pub sound_flags : Chip → Bool
sound_flags c = clauses (flag_each (flags_of c))

unfoldable pub sound_chip : Chip → Bool
sound_chip c =
    clauses (sound_ep0 c.ep0 ∷ sound_ep1 c.ep1 ∷ sound_ep2 c.ep2 ∷ sound_ep3 c.ep3 ∷ sound_registers c.registers ∷ sound_irqs c ∷
    sound_flags c ∷ [])
