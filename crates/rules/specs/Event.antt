-- The twelve events, by their codes, and the MAX3420E as a model (document 01, "The bus side").
use Rattle.std.specs.Prelude.{false, cond, ◌&&◌, List, [], ◌∷◌, ℕ, ◌*◌, eqb, get_or}
use Rattle.std.specs.Int.Bits.{bit_and}
use Rattle.bits.specs.Bit.{has, raised, masked}
use Rattle.bits.specs.First.{first_of}
use Rattle.bits.specs.Flag.{is_on}
use Rattle.chip.specs.declared.Chip.{Chip}
use Rattle.chip.specs.Mask.{chipres, oscokirq, vbusirq, novbusirq, uresdnirq, suspirq, busactirq, output_bits}
use Rattle.chip.specs.Record.{power_on_chip}
use Rattle.chip.specs.Set.{set_power, with_vbus, with_oscok, set_usbirq, set_iopins}
use Rattle.chip.specs.Sound.{sound_chip}
use Rattle.reset.specs.declared.Reset.TheVariants.{PowerOn, BusReset}
use Rattle.reset.specs.Reset.{chip_after}
use Rattle.model.specs.declared.Event.{Event}
use Rattle.model.specs.Reply.{Outcome, outcome, Reply, done, silence, ack}
use Rattle.model.specs.Call.{Model}
use Rattle.rules.specs.Spi.{max3420e_spi}
use Rattle.rules.specs.Seen.{connection_of, seen, heard}
use Rattle.rules.specs.Control.{setup_to}
use Rattle.rules.specs.Out.{out0, out1}
use Rattle.rules.specs.In.{in0, in2, in3}

-- what an event leaves and is replied; the list is its payload
abbrev pub EventRule : Type 0
EventRule = Chip → Event → List ℕ → Outcome Chip Reply

-- ---- events 1 to 9 are answered alike, unless the bus has to be seen for it and is not

abbrev pub signal : (Chip → Event → Chip) → EventRule
signal f c e vs = outcome (f c e) done

-- not seen: silence, no change
abbrev pub when_seen : (Chip → Chip) → EventRule
when_seen f c e vs = cond (seen (connection_of c)) (outcome (f c) done) (outcome c silence)

-- a bit of R13 becomes 1
abbrev pub raise_usbirq : ℕ → Chip → Chip
raise_usbirq m c = set_usbirq (raised m c.registers.usbirq) c

-- 1: power-on
abbrev pub power_on_event : EventRule
power_on_event = signal (λ c e. chip_after PowerOn c)

-- 2: oscillator stable (000 page 49, decision 8); sets the flag and OSCOKIRQ, nothing if CHIPRES=1 (page 4, decision 4)
abbrev pub stable_event : EventRule
stable_event = signal (λ c e. cond (has c.registers.usbctl chipres) c (raise_usbirq oscokirq (set_power (with_oscok 1 c.power) c)))

-- 3, 4: VBUS on, off; VBUSIRQ or NOVBUSIRQ on a change only (000 pages 75, 47)
abbrev pub vbus_on_event : EventRule
vbus_on_event = signal (λ c e. cond (is_on c.power.vbus) c (raise_usbirq vbusirq (set_power (with_vbus 1 c.power) c)))

abbrev pub vbus_off_event : EventRule
vbus_off_event = signal (λ c e. cond (is_on c.power.vbus) (raise_usbirq novbusirq (set_power (with_vbus 0 c.power) c)) c)

-- 5: input pins (low four bits), bits 7..4 of R20 (000 pages 27 to 30)
abbrev pub pins_event : EventRule
pins_event = signal (λ c e. set_iopins (masked output_bits (bit_and e.pins 0x0f * 16) c.registers.iopins) c)

-- 6: bus reset start; the reset lines, which set URESIRQ (000 page 73, decision 41)
abbrev pub reset_start_event : EventRule
reset_start_event = when_seen (chip_after BusReset)

-- 7: bus reset end (000 page 71, decision 7); 8: suspend (69); 9: activity (3, decision 25)
abbrev pub reset_end_event : EventRule
reset_end_event = when_seen (raise_usbirq uresdnirq)

abbrev pub suspend_event : EventRule
suspend_event = when_seen (raise_usbirq suspirq)

abbrev pub activity_event : EventRule
activity_event = when_seen (raise_usbirq busactirq)

-- ---- transactions: silence, and no change, unless heard at an endpoint that exists

-- 10: SETUP, at endpoint 0 only; a damaged one is not heard (decision 24)
abbrev pub setup_event : EventRule
setup_event c e vs = cond (heard c e.damaged e.address && eqb e.endpoint.0 0) (outcome (setup_to c vs) ack) (outcome c silence)

-- 11: OUT, to endpoint 0 or 1
abbrev pub out_event : EventRule
out_event c e vs =
    cond (heard c e.damaged e.address)
    (first_of ((eqb e.endpoint.0 0, out0 c e.data1 vs) ∷ (eqb e.endpoint.0 1, out1 c e.data1 vs) ∷ []) (outcome c silence))
    (outcome c silence)

-- 12: IN, to endpoint 0, 2 or 3; it has no damaged mark (decision 38)
abbrev pub in_event : EventRule
in_event c e vs =
    cond (heard c false e.address)
    (first_of
    ((eqb e.endpoint.0 0, in0 c e.acknowledged) ∷ (eqb e.endpoint.0 2, in2 c e.acknowledged) ∷
    (eqb e.endpoint.0 3, in3 c e.acknowledged) ∷ [])
    (outcome c silence))
    (outcome c silence)

-- no event has code 0, or one above 12
abbrev pub no_event : EventRule
no_event = signal (λ c e. c)

abbrev pub event_rules : List EventRule
event_rules =
    no_event ∷ power_on_event ∷ stable_event ∷ vbus_on_event ∷ vbus_off_event ∷ pins_event ∷ reset_start_event ∷ reset_end_event ∷ suspend_event ∷
    activity_event ∷ setup_event ∷ out_event ∷ in_event ∷ []

-- ---- the MAX3420E

abbrev pub max3420e : Model Chip
max3420e = record { spi = max3420e_spi; bus = λ n. get_or event_rules n no_event; start = power_on_chip; sound = sound_chip; further = λ c k. [] }
