-- Worked examples beside the bench cases: what those do not reach. Each is a list of calls with its answers and the pin after each,
-- from the power-on record; the answers were worked out by hand from document 01. All numbers in hex.
use Rattle.std.specs.Prelude.{Bool, true, false, List, [], ◌∷◌, ◌++◌, map, ℕ, replicate, Ok}
use Rattle.refusal.specs.declared.Refusal.{Refusal}
use Rattle.refusal.specs.declared.Refusal.TheVariants.{NoCommand, LongTransfer, ShortBuffer, UnknownEvent, OutPayload}
use Rattle.refusal.specs.declared.Refusal.TheVariants.{SetupPayload, BadAddress}
use Rattle.chip.specs.declared.Pin.TheVariants.{Low, High, Open}
use Rattle.model.specs.declared.Event.{Event}
use Rattle.model.specs.Reply.{Reply, transferred, done, silence, ack, nak, stall, sent}
use Rattle.model.specs.Call.{Call, transfer, event, refused, answered, Entry}
use Rattle.model.specs.Book.{book_of}
use Rattle.rules.specs.Watch.{unwritten, max3420e_watch}
use Rattle.rules.specs.Bench.{Step, called, still, asked, spi, signals, on, out, «in», r11, setup, plain, no_change, pinned}
use Rattle.rules.specs.Bench.{writes, reads}

-- a transaction's event at an address and endpoint, undamaged
abbrev pub transaction : ℕ → ℕ → ℕ → Event
transaction code address endpoint =
    record { code = code; pins = 0; address = address; endpoint = record { 0 = endpoint }; damaged = false; data1 = false; acknowledged = false }

-- a call that is answered so, the pin inactive
abbrev pub answers : Event → List ℕ → Reply → Step
answers e vs a = called (event e vs 64) (answered a) (Ok High)

-- a burst that reads zeros into n data bytes
abbrev pub burst : ℕ → List ℕ → Step
burst command reply = spi (command ∷ map (λ b. 0) reply) (0 ∷ reply)

-- ---- endpoint 0

-- a control transfer that reads: R4, the data in R0, R5; a NAK sets EP0INAK; the status stage waits for ACKSTAT, and is STALL where it is
-- not empty
abbrev pub read_transfer : List Step
read_transfer =
    on
    ++ (setup (0x80 ∷ 0x06 ∷ 0x00 ∷ 0x01 ∷ 0 ∷ 0 ∷ 0x40 ∷ 0 ∷ []) ∷ burst 0x20 (0x80 ∷ 0x06 ∷ 0x00 ∷ 0x01 ∷ 0 ∷ 0 ∷ 0x40 ∷ 0 ∷ 0 ∷ [])
    ∷ r11 0x39 ∷ writes 0x5a 0x20 ∷ r11 0x19 ∷ spi (0x02 ∷ 0x12 ∷ 0x01 ∷ []) (0 ∷ 0 ∷ 0 ∷ []) ∷ writes 0x2a 0x02 ∷ r11 0x18
    ∷ no_change (writes 0x02 0x77) ∷ no_change (writes 0x2a 0x01) ∷ «in» 0 false (sent true (0x12 ∷ 0x01 ∷ []))
    ∷ «in» 0 true (sent true (0x12 ∷ 0x01 ∷ [])) ∷ r11 0x19 ∷ reads 0x88 0x00 ∷ «in» 0 true nak ∷ reads 0x88 0x20 ∷ writes 0x02 0x34
    ∷ writes 0x2a 0x81 ∷ reads 0x28 0x01 ∷ «in» 0 true (sent false (0x34 ∷ [])) ∷ writes 0x2a 0x01
    ∷ «in» 0 true (sent true (0x34 ∷ [])) ∷ no_change (writes 0x2a 0x41) ∷ no_change (writes 0x2a 0xc1) ∷ out 0 true [] nak
    ∷ spi (0x91 ∷ []) (0 ∷ []) ∷ out 0 true [] ack ∷ out 0 false [] ack ∷ out 0 true (0x01 ∷ []) stall ∷ [])

-- a control transfer that writes: the data waits in R0, a second packet has no room, a repeat is dropped; the write position stays; then
-- a STALL of all three kinds, which the next SETUP ends
abbrev pub write_transfer : List Step
write_transfer =
    on
    ++ (setup (0x21 ∷ 0x09 ∷ 0 ∷ 0 ∷ 0 ∷ 0 ∷ 0x02 ∷ 0 ∷ []) ∷ writes 0x02 0x55 ∷ out 0 true (0xaa ∷ 0xbb ∷ []) ack ∷ r11 0x3b
    ∷ reads 0x28 0x02 ∷ out 0 false (0xcc ∷ []) nak ∷ no_change (writes 0x02 0x66) ∷ no_change (writes 0x2a 0x01)
    ∷ burst 0x00 (0xaa ∷ 0xbb ∷ 0 ∷ []) ∷ writes 0x5a 0x02 ∷ r11 0x39 ∷ out 0 true (0xaa ∷ 0xbb ∷ []) ack ∷ r11 0x39 ∷ writes 0x02 0x77
    ∷ out 0 false (0xcc ∷ 0xdd ∷ 0xee ∷ []) ack ∷ burst 0x00 (0xcc ∷ 0xdd ∷ 0xee ∷ 0 ∷ []) ∷ writes 0x5a 0x02
    ∷ out 0 true (0x11 ∷ []) ack ∷ writes 0x5a 0x02 ∷ writes 0x2a 0x03 ∷ out 0 true (0x01 ∷ []) nak
    ∷ burst 0x00 (0x11 ∷ 0xdd ∷ 0xee ∷ 0 ∷ []) ∷ «in» 0 true nak ∷ writes 0x4a 0x7f ∷ «in» 0 true stall ∷ out 0 false [] stall
    ∷ out 1 false [] stall ∷ «in» 2 true stall ∷ «in» 3 true stall ∷ setup (0x21 ∷ 0x09 ∷ 0 ∷ 0 ∷ 0 ∷ 0 ∷ 0x02 ∷ 0 ∷ [])
    ∷ reads 0x48 0x1c ∷ r11 0x39 ∷ out 0 true (0x01 ∷ []) ack ∷ [])

-- which stage an IN or an OUT belongs to: by bit 7 of byte 0 and both bytes of wLength; STLEP0 bits do not touch the status stage, STLSTAT
-- does not touch the data stage
abbrev pub stages : List Step
stages =
    on
    ++ («in» 0 true nak ∷ out 0 false [] nak ∷ writes 0x4a 0x03 ∷ «in» 0 true stall ∷ out 0 false [] stall
    -- bit 7 and wLength 0100: IN is data
    ∷ setup (0xc0 ∷ 0 ∷ 0 ∷ 0 ∷ 0 ∷ 0 ∷ 0x00 ∷ 0x01 ∷ []) ∷ writes 0x4a 0x20 ∷ «in» 0 true nak ∷ out 0 true [] stall ∷ writes 0x4a 0x43
    ∷ «in» 0 true stall ∷ out 0 true [] ack
    -- bit 7 and wLength 1: IN is data
    ∷ setup (0x80 ∷ 0 ∷ 0 ∷ 0 ∷ 0 ∷ 0 ∷ 0x01 ∷ 0x00 ∷ []) ∷ writes 0x4a 0x40 ∷ «in» 0 true nak ∷ out 0 true [] ack
    -- bit 7 and wLength 0: IN is status, OUT is STALL
    ∷ setup (0x80 ∷ 0 ∷ 0 ∷ 0 ∷ 0 ∷ 0 ∷ 0x00 ∷ 0x00 ∷ []) ∷ writes 0x4a 0x40 ∷ «in» 0 true (sent true []) ∷ out 0 true [] stall
    -- no bit 7 and wLength 2: IN is status, OUT is data
    ∷ setup (0x7f ∷ 0 ∷ 0 ∷ 0 ∷ 0 ∷ 0 ∷ 0x02 ∷ 0x00 ∷ []) ∷ writes 0x4a 0x20 ∷ «in» 0 true stall ∷ out 0 true (0x01 ∷ []) ack
    ∷ writes 0x4a 0x43 ∷ «in» 0 true (sent true []) ∷ out 0 false (0x01 ∷ []) stall ∷ [])

-- SET_ADDRESS: FNADDR changes when the status stage's ACK arrives; not by another request, nor with a wLength
abbrev pub set_address : List Step
set_address =
    on
    ++ (setup (0x00 ∷ 0x05 ∷ 0xaa ∷ 0 ∷ 0 ∷ 0 ∷ 0x01 ∷ 0 ∷ []) ∷ spi (0x91 ∷ []) (0 ∷ []) ∷ no_change («in» 0 true (sent true []))
    ∷ setup (0x00 ∷ 0x09 ∷ 0xaa ∷ 0 ∷ 0 ∷ 0 ∷ 0 ∷ 0 ∷ []) ∷ spi (0x91 ∷ []) (0 ∷ []) ∷ no_change («in» 0 true (sent true []))
    ∷ setup (0x01 ∷ 0x05 ∷ 0xaa ∷ 0 ∷ 0 ∷ 0 ∷ 0 ∷ 0 ∷ []) ∷ spi (0x91 ∷ []) (0 ∷ []) ∷ no_change («in» 0 true (sent true []))
    ∷ setup (0x00 ∷ 0x05 ∷ 0xaa ∷ 0 ∷ 0 ∷ 0 ∷ 0 ∷ 0 ∷ []) ∷ «in» 0 true nak ∷ spi (0x91 ∷ []) (0 ∷ [])
    ∷ no_change («in» 0 false (sent true [])) ∷ reads 0x98 0x00 ∷ «in» 0 true (sent true []) ∷ reads 0x98 0x2a
    ∷ no_change (answers (transaction 10 0 0) (replicate 8 0) silence) ∷ answers (transaction 10 0x2a 0) (replicate 8 0) ack ∷ [])

-- ---- endpoints 1, 2 and 3

-- endpoint 1: R6 and R1 show the older packet, then the other, then nothing
abbrev pub released : List Step
released =
    on
    ++ (out 1 false (0x07 ∷ 0x08 ∷ []) ack ∷ out 1 true (0x09 ∷ []) ack ∷ reads 0x30 0x02 ∷ burst 0x08 (0x07 ∷ 0x08 ∷ 0 ∷ [])
    ∷ writes 0x5a 0x04 ∷ reads 0x30 0x01 ∷ burst 0x08 (0x09 ∷ 0 ∷ []) ∷ writes 0x5a 0x04 ∷ reads 0x30 0x00 ∷ reads 0x08 0x00
    ∷ no_change (out 1 true (0x01 ∷ []) ack) ∷ reads 0x30 0x00 ∷ writes 0x52 0x04 ∷ out 1 false (0x02 ∷ 0x03 ∷ []) ack ∷ reads 0x30 0x02
    ∷ [])

-- each toggle is cleared by its own bit of R10, and by no other
abbrev pub toggles : List Step
toggles =
    on
    ++ (writes 0x3a 0x00 ∷ «in» 2 true (sent false []) ∷ writes 0x42 0x00 ∷ «in» 3 true (sent false []) ∷ out 1 false [] ack
    ∷ writes 0x5a 0x04 ∷ writes 0x52 0x14 ∷ reads 0x50 0x00 ∷ writes 0x3a 0x00 ∷ «in» 2 false (sent true []) ∷ writes 0x42 0x00
    ∷ «in» 3 false (sent false []) ∷ out 1 false [] ack ∷ writes 0x52 0x08 ∷ «in» 2 false (sent false []) ∷ «in» 3 true (sent false [])
    ∷ writes 0x42 0x00 ∷ writes 0x52 0x0c ∷ «in» 3 false (sent true []) ∷ out 1 false [] ack ∷ [])

-- a disabled endpoint is silent, and its registers act all the same; transactions at endpoints that do not exist, or damaged
abbrev pub silent : List Step
silent =
    on
    ++ (writes 0x52 0x20 ∷ out 1 false [] silence ∷ «in» 2 true nak ∷ «in» 3 true nak ∷ writes 0x52 0x40 ∷ out 1 false [] ack
    ∷ no_change («in» 2 true silence) ∷ «in» 3 true nak ∷ writes 0x52 0x80 ∷ «in» 2 true nak ∷ no_change («in» 3 true silence)
    ∷ writes 0x3a 0x00 ∷ writes 0x42 0x00 ∷ writes 0x52 0x00 ∷ «in» 2 true (sent false []) ∷ «in» 3 true (sent false [])
    ∷ no_change («in» 1 true silence) ∷ no_change (out 2 false [] silence)
    ∷ no_change (answers (transaction 10 0 1) (replicate 8 0) silence) ∷ no_change (answers (transaction 11 1 0) [] silence)
    ∷ no_change (answers (transaction 12 1 2) [] silence)
    ∷ no_change (answers (record { code = 10; pins = 0; address = 0; endpoint = record { 0 = 0 }; damaged = true; data1 = false; acknowledged = false })
    (replicate 8 0) silence)
    ∷ no_change (answers (record {
      code = 11;
      pins = 0;
      address = 0;
      endpoint = record { 0 = 1 };
      damaged = true;
      data1 = true;
      acknowledged =
          false;
    }) [] silence)
    ∷ answers (record { code = 12; pins = 0; address = 0; endpoint = record { 0 = 2 }; damaged = true; data1 = false; acknowledged = false }) [] nak
    ∷ [])

-- STALL by each endpoint's own bit
abbrev pub stalled : List Step
stalled =
    on
    ++ (writes 0x4a 0x04 ∷ no_change (out 1 false [] stall) ∷ «in» 2 true nak ∷ «in» 3 true nak ∷ writes 0x4a 0x08 ∷ out 1 false [] ack
    ∷ no_change («in» 2 true stall) ∷ «in» 3 true nak ∷ writes 0x4a 0x10 ∷ «in» 2 true nak ∷ no_change («in» 3 true stall)
    ∷ writes 0x4a 0x01 ∷ «in» 0 true stall ∷ out 0 true [] nak ∷ writes 0x4a 0x02 ∷ «in» 0 true nak ∷ out 0 true [] stall ∷ [])

-- endpoint 3's buffer is the chip's while it is armed; its bytes and position stay when it is acknowledged
abbrev pub single : List Step
single =
    on
    ++ (spi (0x1a ∷ 0x0a ∷ 0x0b ∷ []) (0 ∷ 0 ∷ 0 ∷ []) ∷ no_change (writes 0x42 0x41) ∷ writes 0x42 0x02 ∷ reads 0x40 0x02
    ∷ no_change (writes 0x1a 0x0c) ∷ no_change (writes 0x42 0x01) ∷ «in» 3 false (sent false (0x0a ∷ 0x0b ∷ []))
    ∷ «in» 3 true (sent false (0x0a ∷ 0x0b ∷ [])) ∷ r11 0x19 ∷ writes 0x1a 0x0d ∷ writes 0x42 0x02
    ∷ «in» 3 true (sent true (0x0d ∷ 0x0b ∷ [])) ∷ reads 0x10 0x00 ∷ reads 0x18 0x00 ∷ [])

-- ---- resets

-- a chip reset inside a burst: `7B 28 05` sets ACKSTAT, resets, and writes R16 of the reset chip; the bus is not seen again before CHIPRES
-- is 0 and the oscillator stable
abbrev pub reset_in_burst : List Step
reset_in_burst =
    on
    ++ (writes 0x4a 0x1c ∷ spi (0x7b ∷ 0x28 ∷ 0x05 ∷ []) (0 ∷ 0 ∷ 0 ∷ []) ∷ reads 0x48 0x00 ∷ reads 0x78 0x28 ∷ reads 0x80 0x01
    ∷ no_change («in» 2 true silence) ∷ no_change (signals 2) ∷ writes 0x7a 0x08 ∷ no_change («in» 2 true silence) ∷ signals 2
    ∷ «in» 2 true nak ∷ [])

-- bytes written before a bus reset may be armed after it; a bus reset that is not seen does nothing
abbrev pub armed_after_reset : List Step
armed_after_reset =
    on
    ++ (writes 0x12 0x5a ∷ writes 0x3a 0x01 ∷ signals 6 ∷ r11 0x19 ∷ reads 0x68 0x08 ∷ «in» 2 true nak ∷ writes 0x3a 0x01
    ∷ «in» 2 true (sent false (0x5a ∷ [])) ∷ signals 7 ∷ reads 0x68 0x88 ∷ writes 0x7a 0x00 ∷ no_change (answers (plain 6) [] silence)
    ∷ no_change (answers (plain 7) [] silence) ∷ [])

-- suspend and activity, seen and not seen; power-on forgets all
abbrev pub signalled : List Step
signalled =
    on
    ++ (reads 0x68 0x01 ∷ signals 8 ∷ reads 0x68 0x11 ∷ signals 9 ∷ reads 0x68 0x15 ∷ writes 0x6a 0x05 ∷ reads 0x68 0x10
    ∷ writes 0x7a 0x00 ∷ no_change (answers (plain 8) [] silence) ∷ no_change (answers (plain 9) [] silence) ∷ signals 1
    ∷ reads 0x68 0x00 ∷ writes 0x7a 0x08 ∷ no_change («in» 3 true silence) ∷ [])

-- VBUS: a change sets a bit of R13; with VBGATE=1 the bus is seen only while VBUS is on
abbrev pub gated : List Step
gated =
    on
    ++ (no_change (signals 4) ∷ signals 3 ∷ reads 0x68 0x41 ∷ no_change (signals 3) ∷ writes 0x6a 0xff ∷ writes 0x7a 0x48
    ∷ «in» 3 true nak ∷ signals 4 ∷ no_change («in» 3 true silence) ∷ reads 0x68 0x20 ∷ signals 3 ∷ «in» 3 true nak ∷ reads 0x68 0x60
    ∷ [])

-- ---- the INT pin

-- a step with the pin at a level, in edge mode with POSINT=0, with POSINT=1, and in level mode
abbrev pub interrupts : List Step
interrupts =
    on
    ++ (writes 0x72 0x01 ∷ pinned (Ok Low) (writes 0x82 0x01) ∷ pinned (Ok High) (writes 0x8a 0x04)
    ∷ pinned (Ok Low) (writes 0x6a 0x01) ∷ pinned (Ok Open) (writes 0x8a 0x0c) ∷ pinned (Ok Low) (writes 0x62 0x01)
    ∷ pinned (Ok Low) (writes 0x8a 0x08) ∷ pinned (Ok Open) (writes 0x82 0xfe) ∷ pinned (Ok High) (writes 0x8a 0x00) ∷ [])

-- ---- every register: written with FF, 00 and two patterns, and read back

-- what a register reads after each of FF, A5, 5A and 00 is written to it
abbrev pub written : ℕ → ℕ → ℕ → ℕ → ℕ → ℕ → List Step
written write read ff a5 s5a s00 =
    writes write 0xff ∷ reads read ff ∷ writes write 0xa5 ∷ reads read a5 ∷ writes write 0x5a ∷ reads read s5a ∷ writes write 0x00 ∷
    reads read s00 ∷ []

abbrev pub stored_registers : List Step
stored_registers =
    on
    -- R9, R10, R12, R14, R16
    ++ written 0x4a 0x48 0x7f 0x25 0x5a 0x00 ++ written 0x52 0x50 0xe0 0xa0 0x40 0x00 ++ written 0x62 0x60 0x3f 0x25 0x1a 0x00
    ++ written 0x72 0x70 0xff 0xa5 0x5a 0x00 ++ written 0x82 0x80 0x01 0x01 0x00 0x00
    -- R18, R19, and 21 to 31 ignore what is written
    ++ written 0x92 0x90 0x01 0x01 0x01 0x01 ++ written 0x9a 0x98 0x00 0x00 0x00 0x00 ++ written 0xaa 0xa8 0x00 0x00 0x00 0x00
    ++ written 0xfa 0xf8 0x00 0x00 0x00 0x00
    -- R1, R4, R6 too; R5, R7 and R8 take a count of 0 only, of these
    ++ map no_change (writes 0x0a 0xff ∷ writes 0x22 0xff ∷ writes 0x32 0x01 ∷ [])
    -- R20: the low four, the input pins stay
    ++ (called (event (record {
      code = 5;
      pins = 0x3f;
      address = 0;
      endpoint = record { 0 = 0 };
      damaged = false;
      data1 = false;
      acknowledged =
          false;
    }) [] 0) (answered done) (Ok High) ∷ [])
    ++ written 0xa2 0xa0 0xff 0xf5 0xfa 0xf0
    -- R13: a 1 clears; OSCOKIRQ is set
    ++ (writes 0x6a 0xfe ∷ reads 0x68 0x01 ∷ writes 0x6a 0x01 ∷ reads 0x68 0x00 ∷ [])
    -- R17: a 1 clears the NAK bits, which three NAKs set; the other five are stored; FDUPSPI then shows R11 and R13 in reply byte 0
    ++ («in» 0 true nak ∷ «in» 2 true nak ∷ «in» 3 true nak ∷ reads 0x88 0xe0 ∷ writes 0x8a 0x43 ∷ reads 0x88 0xa3 ∷ signals 8 ∷
    writes 0x8a 0x90
    ∷ spi (0x88 ∷ 0 ∷ []) (0x99 ∷ 0x30 ∷ []) ∷ signals 6 ∷ spi (0x88 ∷ 0 ∷ []) (0x59 ∷ 0x10 ∷ []) ∷ spi (0x8a ∷ 0x00 ∷ []) (0x59 ∷ 0 ∷ [])
    ∷ reads 0x88 0x00 ∷ [])
    -- R15: bits 7..2; CHIPRES going 0 to 1 resets, 1 to 1 does not
    ++ (writes 0x7a 0x5b ∷ reads 0x78 0x58 ∷ writes 0x62 0x3f ∷ writes 0x7a 0xa5 ∷ reads 0x78 0xa4 ∷ reads 0x60 0x00 ∷ writes 0x62 0x3f ∷
    writes 0x7a 0xff
    ∷ reads 0x78 0xfc ∷ reads 0x60 0x3f ∷ writes 0x7a 0x00 ∷ reads 0x78 0x00 ∷ [])

-- R11: each bit with a 1 and without; several at once, as a careless read-modify-write does it
abbrev pub cleared_irqs : List Step
cleared_irqs =
    on
    ++ (setup (0x21 ∷ 0x09 ∷ 0 ∷ 0 ∷ 0 ∷ 0 ∷ 0x02 ∷ 0 ∷ []) ∷ out 0 true (0x01 ∷ []) ack ∷ out 1 false (0x02 ∷ []) ack ∷ r11 0x3f
    ∷ no_change (writes 0x5a 0xc0) ∷ writes 0x5a 0x01 ∷ r11 0x3e ∷ writes 0x5a 0x02 ∷ r11 0x3c ∷ writes 0x5a 0x20 ∷ r11 0x1c
    ∷ writes 0x5a 0x08 ∷ r11 0x14 ∷ writes 0x5a 0x10 ∷ r11 0x04 ∷ writes 0x5a 0xff ∷ r11 0x00
    ∷ signals 6 ∷ setup (0x21 ∷ 0x09 ∷ 0 ∷ 0 ∷ 0 ∷ 0 ∷ 0x02 ∷ 0 ∷ []) ∷ r11 0x39 ∷ writes 0x5a 0x39 ∷ r11 0x00 ∷ [])

-- ---- BAV bits cleared by hand (Ask 2)

-- IN2BAVIRQ, with nothing armed: no packet moves, a packet that leaves room leaves the bit clear, the third has no room; the bit
-- is 1 again at the acknowledged IN, and not without the ACK nor at a NAK; then cleared while one waits
abbrev pub in2bav_by_hand : List Step
in2bav_by_hand =
    on
    ++ (writes 0x5a 0x08 ∷ r11 0x11 ∷ «in» 2 true nak ∷ r11 0x11 ∷ writes 0x12 0x01 ∷ writes 0x3a 0x01 ∷ r11 0x11 ∷ writes 0x12 0x02
    ∷ writes 0x3a 0x01 ∷ r11 0x11 ∷ no_change (writes 0x12 0x03) ∷ no_change (writes 0x3a 0x01) ∷ no_change (writes 0x5a 0x08)
    ∷ «in» 2 false (sent false (0x01 ∷ [])) ∷ r11 0x11 ∷ «in» 2 true (sent false (0x01 ∷ [])) ∷ r11 0x19 ∷ writes 0x5a 0x08 ∷ r11 0x11
    ∷ «in» 2 true (sent true (0x02 ∷ [])) ∷ r11 0x19 ∷ [])

-- IN3BAVIRQ alike; an acknowledged IN brings back the bit of its own endpoint only
abbrev pub in3bav_by_hand : List Step
in3bav_by_hand =
    on
    ++ (writes 0x5a 0x18 ∷ r11 0x01 ∷ «in» 3 true nak ∷ r11 0x01 ∷ writes 0x1a 0x07 ∷ writes 0x42 0x01 ∷ r11 0x01
    ∷ no_change (writes 0x1a 0x08) ∷ no_change (writes 0x42 0x01) ∷ no_change (writes 0x5a 0x10) ∷ «in» 3 false (sent false (0x07 ∷ []))
    ∷ r11 0x01 ∷ «in» 3 true (sent false (0x07 ∷ [])) ∷ r11 0x11 ∷ [])

-- every reset brings both back, a bus reset that is not seen does not
abbrev pub bav_at_reset : List Step
bav_at_reset =
    on
    ++ (writes 0x5a 0x18 ∷ r11 0x01 ∷ signals 6 ∷ r11 0x19 ∷ writes 0x5a 0x18 ∷ writes 0x7a 0x00 ∷ no_change (answers (plain 6) [] silence)
    ∷ r11 0x01 ∷ writes 0x7a 0x20 ∷ r11 0x19 ∷ writes 0x5a 0x18 ∷ r11 0x01 ∷ signals 1 ∷ r11 0x19 ∷ [])

-- bytes act one at a time: a burst from R7 arms endpoints 2 and 3, which leaves IN2BAVIRQ 1, and its byte for R11 then clears it; one over
-- R11 to R15 clears it and ends in a chip reset; reply byte 0 and the pin follow the bits
abbrev pub bav_in_burst : List Step
bav_in_burst =
    on
    ++ (spi (0x3a ∷ 0x01 ∷ 0x00 ∷ 0x00 ∷ 0x00 ∷ 0x18 ∷ []) (replicate 6 0) ∷ r11 0x01 ∷ «in» 2 true (sent false (0x00 ∷ [])) ∷ r11 0x09
    ∷ «in» 3 true (sent false []) ∷ r11 0x19 ∷ spi (0x5a ∷ 0x08 ∷ 0x00 ∷ 0x00 ∷ 0x00 ∷ 0x28 ∷ []) (replicate 6 0) ∷ r11 0x19
    ∷ writes 0x62 0x08 ∷ writes 0x8a 0x10 ∷ pinned (Ok Low) (spi (0x82 ∷ 0x01 ∷ []) (0x19 ∷ 0 ∷ []))
    ∷ pinned (Ok High) (spi (0x5a ∷ 0x08 ∷ []) (0x19 ∷ 0 ∷ [])) ∷ spi (0x58 ∷ 0 ∷ []) (0x11 ∷ 0x11 ∷ []) ∷ [])

-- a burst writes R9 to R20 and sticks there, and one reads R5 to R20, each register once
abbrev pub bursts : List Step
bursts =
    on
    ++ (writes 0x12 0x31 ∷ writes 0x3a 0x01 ∷ writes 0x42 0x02 ∷ out 1 false (0x07 ∷ 0x08 ∷ 0x09 ∷ []) ack ∷ writes 0x2a 0x04
    ∷ spi (0x4a ∷ 0x11 ∷ 0x20 ∷ 0x00 ∷ 0x2a ∷ 0x00 ∷ 0x16 ∷ 0x58 ∷ 0x00 ∷ 0x03 ∷ 0xff ∷ 0xff ∷ 0x05 ∷ 0x0a ∷ []) (replicate 14 0)
    ∷ burst 0x28 (0x04 ∷ 0x03 ∷ 0x01 ∷ 0x02 ∷ 0x11 ∷ 0x20 ∷ 0x0c ∷ 0x2a ∷ 0x01 ∷ 0x16 ∷ 0x58 ∷ 0x00 ∷ 0x03 ∷ 0x01 ∷ 0x00 ∷ 0x0a ∷ 0x0a ∷
    0x0a ∷ [])
    ∷ spi (0xac ∷ 0 ∷ 0 ∷ []) (0 ∷ 0 ∷ 0 ∷ []) ∷ spi (0x4d ∷ 0 ∷ []) (0 ∷ 0x51 ∷ []) ∷ [])

-- the 65th byte of a burst has no place, in any of the three FIFOs
abbrev pub full_bursts : List Step
full_bursts =
    on
    ++ (spi (0x02 ∷ replicate 64 0x01 ++ (0x02 ∷ [])) (replicate 66 0) ∷ no_change (writes 0x02 0x03)
    ∷ spi (0x12 ∷ replicate 64 0x04 ++ (0x05 ∷ [])) (replicate 66 0) ∷ no_change (writes 0x12 0x06)
    ∷ spi (0x1a ∷ replicate 64 0x07 ++ (0x08 ∷ [])) (replicate 66 0) ∷ no_change (writes 0x1a 0x09) ∷ writes 0x3a 0x40
    ∷ writes 0x42 0x40 ∷ «in» 2 true (sent false (replicate 64 0x04)) ∷ «in» 3 true (sent false (replicate 64 0x07)) ∷ [])

-- ---- refusals, and what is just not refused

abbrev pub refuses : Call → Refusal → Step
refuses k r = still k (refused r) (Ok High)

abbrev pub refusals : List Step
refusals =
    refuses (transfer [] 0) NoCommand ∷ refuses (transfer (replicate 4097 0) 0) LongTransfer ∷ refuses (transfer (0 ∷ 0 ∷ []) 1) ShortBuffer
    ∷ refuses (event (plain 0) [] 0) UnknownEvent ∷ refuses (event (plain 13) [] 0) UnknownEvent ∷ refuses
    (event (transaction 12 128 0) [] 63) ShortBuffer
    ∷ refuses (event (transaction 11 128 0) (replicate 65 0) 0) (OutPayload 65)
    ∷ refuses (event (transaction 11 0 1) (replicate 300 0) 2) (OutPayload 300)
    ∷ refuses (event (transaction 10 0 16) (replicate 7 0) 0) (SetupPayload 7)
    ∷ refuses (event (transaction 10 0 0) (replicate 9 0) 0) (SetupPayload 9)
    ∷ refuses (event (transaction 10 0 0) [] 0) (SetupPayload 0) ∷ refuses (event (transaction 12 128 0) [] 64) BadAddress
    ∷ refuses (event (transaction 12 0 16) [] 64) BadAddress ∷ refuses (event (transaction 11 128 0) [] 0) BadAddress
    ∷ refuses (event (transaction 10 128 0) (replicate 8 0) 0) BadAddress
    ∷ called (transfer (0x90 ∷ replicate 4095 0) 4096) (answered (transferred (0 ∷ 0x01 ∷ 0 ∷ replicate 4093 0))) (Ok High)
    ∷ answers (transaction 12 127 15) [] silence ∷ answers (transaction 11 127 15) (replicate 64 0) silence
    ∷ called (event (transaction 11 0 1) [] 0) (answered silence) (Ok High) ∷ called (event (transaction 10 0 0) (replicate 8 0) 0)
    (answered silence) (Ok High) ∷ []

abbrev pub examples : List (List Step)
examples =
    read_transfer ∷ write_transfer ∷ stages ∷ set_address ∷ released ∷ toggles ∷ silent ∷ stalled ∷ single ∷ reset_in_burst ∷ armed_after_reset ∷
    signalled ∷
    gated ∷ interrupts ∷ stored_registers ∷ cleared_irqs ∷ in2bav_by_hand ∷ in3bav_by_hand ∷ bav_at_reset ∷ bav_in_burst ∷ bursts ∷ full_bursts ∷
    refusals ∷ []

-- ---- the watch

-- the calls of a list of steps, as a history
abbrev pub entries_of : List Step → List Entry
entries_of [] = []
entries_of (called k a p ∷ ss) = record { call = k; answer = a } ∷ entries_of ss
entries_of (still k a p ∷ ss) = record { call = k; answer = a } ∷ entries_of ss
entries_of (asked s r vs ∷ ss) = entries_of ss

-- steps, and what the watch says after them
pub record Watched : Type 0 where
  pub steps : List Step
  pub written : Bool

abbrev pub watched : Watched → Watched
watched x = record { steps = x.steps; written = (book_of max3420e_watch unwritten (entries_of x.steps)).written }

abbrev pub watching : List Step → Bool → Watched
watching ss t = record { steps = on ++ ss; written = t }

-- it is a 1 in that bit, written to R11 by a call that is not refused, in a burst too; neither arming nor an acknowledged IN ends it
abbrev pub watched_writes : List Watched
watched_writes =
    watching [] false ∷ watching (writes 0x5a 0x08 ∷ []) true ∷ watching (writes 0x5a 0xff ∷ []) true ∷ watching (writes 0x5a 0xf7 ∷ []) false
    ∷ watching (writes 0x62 0x08 ∷ []) false ∷ watching (reads 0x58 0x19 ∷ []) false
    ∷ watching (spi (0x58 ∷ 0x08 ∷ []) (0 ∷ 0x19 ∷ []) ∷ []) false
    ∷ watching (refuses (transfer (0x5a ∷ 0x08 ∷ []) 1) ShortBuffer ∷ []) false
    ∷ watching (spi (0x52 ∷ 0x00 ∷ 0x08 ∷ 0x00 ∷ []) (replicate 4 0) ∷ []) true
    ∷ watching (writes 0x5a 0x08 ∷ writes 0x5a 0x00 ∷ writes 0x3a 0x01 ∷ «in» 2 true (sent false (0x00 ∷ [])) ∷ []) true ∷ []

-- each of the three resets ends it, a bus reset only where it is seen, a chip reset only where CHIPRES goes 0 to 1
abbrev pub watched_resets : List Watched
watched_resets =
    watching (writes 0x5a 0x08 ∷ signals 1 ∷ []) false ∷ watching (writes 0x5a 0x08 ∷ signals 6 ∷ []) false
    ∷ watching (writes 0x5a 0x08 ∷ writes 0x7a 0x28 ∷ []) false
    ∷ watching (writes 0x5a 0x08 ∷ signals 7 ∷ []) true
    ∷ watching (writes 0x7a 0x00 ∷ writes 0x5a 0x08 ∷ answers (plain 6) [] silence ∷ []) true
    ∷ watching (writes 0x7a 0x28 ∷ writes 0x5a 0x08 ∷ writes 0x7a 0x28 ∷ []) true
    ∷ watching (writes 0x7a 0x28 ∷ writes 0x5a 0x08 ∷ writes 0x7a 0x08 ∷ []) true
    ∷ watching (writes 0x7a 0x28 ∷ writes 0x7a 0x08 ∷ writes 0x5a 0x08 ∷ writes 0x7a 0x28 ∷ []) false
    ∷ watching (signals 6 ∷ writes 0x5a 0x08 ∷ []) true
    ∷ watching (spi (0x5a ∷ 0x08 ∷ 0x00 ∷ 0x00 ∷ 0x00 ∷ 0x28 ∷ []) (replicate 6 0) ∷ []) false ∷ []

abbrev pub watches : List Watched
watches = watched_writes ++ watched_resets
