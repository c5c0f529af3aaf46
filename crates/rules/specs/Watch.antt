-- The watch: whether a 1 was written to IN2BAVIRQ since the start or the last reset that reached the endpoints (Ask 2). It is a book
-- of its own beside the ledger, read off the calls and their answers; it never sees a record.
use Rattle.std.specs.Prelude.{Bool, false, cond, ◌||◌, List, [], ◌∷◌, ◌++◌, ℕ, get_or, replicate}
use Rattle.std.specs.Int.Bits.{bit_and}
use Rattle.bits.specs.Bit.{has, rises}
use Rattle.chip.specs.Mask.{in2bavirq, usbctl_bits, chipres}
use Rattle.reset.specs.declared.Reset.{Reset}
use Rattle.reset.specs.declared.Reset.TheVariants.{PowerOn, ChipReset, BusReset}
use Rattle.reset.specs.Table.{register_after}
use Rattle.model.specs.declared.Event.{Event}
use Rattle.model.specs.Reply.{Reply, transferred, done, silence, ack, nak, stall, sent}
use Rattle.model.specs.Book.{Book}
use Rattle.rules.specs.Spi.{step_register}

-- R15, to see CHIPRES go 0 to 1; and whether that 1 was written
pub record Watch : Type 0 where
  pub usbctl : ℕ
  pub written : Bool

-- from power-on
abbrev pub unwritten : Watch
unwritten = record { usbctl = 0; written = false }

-- a reset that reaches the endpoints
abbrev pub watch_after : Reset → Watch → Watch
watch_after k w = record { usbctl = register_after k 15 w.usbctl; written = false }

-- ---- writes

abbrev pub WatchWrite : Type 0
WatchWrite = Watch → ℕ → Watch

abbrev pub unwatched_write : WatchWrite
unwatched_write w b = w

-- R11
abbrev pub watch_epirq : WatchWrite
watch_epirq w b = record { usbctl = w.usbctl; written = has b in2bavirq || w.written }

-- R15: bits 7..2; CHIPRES going 0 to 1 is a chip reset
abbrev pub watch_rise : ℕ → Watch → Watch
watch_rise before w = cond (rises chipres before w.usbctl) (watch_after ChipReset w) w

abbrev pub watch_usbctl : WatchWrite
watch_usbctl w b = watch_rise w.usbctl (record { usbctl = bit_and b usbctl_bits; written = w.written })

-- R0 to R15
abbrev pub watch_writes : List WatchWrite
watch_writes = replicate 11 unwatched_write ++ (watch_epirq ∷ unwatched_write ∷ unwatched_write ∷ unwatched_write ∷ watch_usbctl ∷ [])

-- ---- events

abbrev pub WatchEvent : Type 0
WatchEvent = Watch → Event → List ℕ → Reply → Watch

abbrev pub unwatched_event : WatchEvent
unwatched_event w e vs a = w

abbrev pub watch_power_on : WatchEvent
watch_power_on w e vs a = watch_after PowerOn w

-- a bus reset start that was seen is answered `done`
abbrev pub watch_reset_start : WatchEvent
watch_reset_start w e vs (transferred xs) = w
watch_reset_start w e vs done = watch_after BusReset w
watch_reset_start w e vs silence = w
watch_reset_start w e vs ack = w
watch_reset_start w e vs nak = w
watch_reset_start w e vs stall = w
watch_reset_start w e vs (sent t xs) = w

-- codes 0 to 6
abbrev pub watch_events : List WatchEvent
watch_events = unwatched_event ∷ watch_power_on ∷ replicate 4 unwatched_event ++ (watch_reset_start ∷ [])

-- ---- how it reads the calls of the MAX3420E

abbrev pub max3420e_watch : Book Watch
max3420e_watch = record {
  write = λ n. get_or watch_writes n unwatched_write;
  step = step_register;
  event = λ n. get_or watch_events n unwatched_event;
}
