-- IN at endpoints 0, 2 and 3: the verdict, which is what the first rule gives that applies; then the record and the reply for each
-- verdict (document 01, "The bus side"; 000 pages 40, 42, 44).
use Rattle.std.specs.Prelude.{Bool, true, false, not, cond, [], ◌∷◌, ℕ, eqb, take}
use Rattle.std.specs.Int.Bits.{bit_and}
use Rattle.bits.specs.Bit.{has, raised}
use Rattle.bits.specs.First.{first_of}
use Rattle.bits.specs.Flag.{is_on, flipped}
use Rattle.ring.specs.Ring.{release_oldest, oldest_packet}
use Rattle.chip.specs.declared.Endpoint0.{Endpoint0}
use Rattle.chip.specs.declared.Endpoint2.{Endpoint2}
use Rattle.chip.specs.declared.Endpoint3.{Endpoint3}
use Rattle.chip.specs.declared.Chip.{Chip}
use Rattle.chip.specs.Mask.{ackstat, stlstat, stlep0in, stlep2in, stlep3in, ep2disab, ep3disab, in0bavirq, in2bavirq, in3bavirq}
use Rattle.chip.specs.Mask.{ep0inak, ep2inak, ep3inak, fnaddr_bits}
use Rattle.chip.specs.Set.{set_ep0, set_ep2, set_ep3, set_pinctl, set_fnaddr}
use Rattle.model.specs.Reply.{Outcome, outcome, Reply, silence, nak, stall, sent}
use Rattle.rules.specs.declared.InVerdict.{InVerdict}
use Rattle.rules.specs.declared.InVerdict.TheVariants.{Silent, Stall, Nak, Send, Status}
use Rattle.rules.specs.Write.{raise_epirq}
use Rattle.rules.specs.Control.{setup_byte, reading, sets_address}

-- a NAK to IN, status too, sets that endpoint's INAK bit (000 pages 11, 16, 20)
abbrev pub set_inak : ℕ → Chip → Chip
set_inak m c = set_pinctl (raised m c.registers.pinctl) c

-- when an IN status is acknowledged and the request is SET_ADDRESS, FNADDR takes byte 2's low seven bits (000 page 26)
abbrev pub addressed : Chip → Chip
addressed c = cond (sets_address c) (set_fnaddr (bit_and (setup_byte c 2) fnaddr_bits) c) c

-- the record after, where it is `gone` once the packet has left, and the reply: a packet leaves if the ACK arrives; without the ACK
-- nothing changes
abbrev pub in_outcome : ℕ → Reply → Chip → Chip → Bool → InVerdict → Outcome Chip Reply
in_outcome inak packet gone c acknowledged Silent = outcome c silence
in_outcome inak packet gone c acknowledged Stall = outcome c stall
in_outcome inak packet gone c acknowledged Nak = outcome (set_inak inak c) nak
in_outcome inak packet gone c acknowledged Send = outcome (cond acknowledged gone c) packet
in_outcome inak packet gone c acknowledged Status = outcome (cond acknowledged (addressed c) c) (sent true [])

-- ---- endpoint 0

-- status (000 pages 1, 64): STALL if STLSTAT; else with ACKSTAT=1 an empty DATA1; else NAK
abbrev pub in0_status : Chip → InVerdict
in0_status c = first_of ((has c.registers.epstalls stlstat, Stall) ∷ (has c.registers.epstalls ackstat, Status) ∷ []) Nak

-- data: STALL if STLEP0IN is set (000 page 59); the armed packet; none armed: NAK
abbrev pub in0_data : Chip → Bool → InVerdict
in0_data c armed = first_of ((has c.registers.epstalls stlep0in, Stall) ∷ (armed, Send) ∷ []) Nak

-- with no SETUP current: STALL if STLEP0IN is set, else NAK (decision 19)
abbrev pub in0_verdict : Chip → InVerdict
in0_verdict c = first_of ((not (is_on c.ep0.current), in0_data c false) ∷ (reading c, in0_data c (is_on c.ep0.armed)) ∷ []) (in0_status c)

-- the packet leaves, the toggle flips
abbrev pub ep0_gone : Endpoint0 → Endpoint0
ep0_gone e = record {
  bytes = e.bytes;
  setup = e.setup;
  count = e.count;
  armed = 0;
  readpos = e.readpos;
  writepos = e.writepos;
  setuppos = e.setuppos;
  intoggle = flipped e.intoggle;
  outtoggle = e.outtoggle;
  current = e.current;
}

-- IN0BAVIRQ becomes 1 (000 page 40)
abbrev pub in0_gone : Chip → Chip
in0_gone c = raise_epirq in0bavirq (set_ep0 (ep0_gone c.ep0) c)

abbrev pub in0 : Chip → Bool → Outcome Chip Reply
in0 c acknowledged =
    in_outcome ep0inak (sent (is_on c.ep0.intoggle) (take c.ep0.count c.ep0.bytes)) (in0_gone c) c acknowledged (in0_verdict c)

-- ---- endpoints 2 and 3

-- silence if disabled (000 pages 15, 19); STALL if its STLEP bit is set (62, 63); the oldest armed packet; none armed: NAK
abbrev pub in_verdict : Bool → Bool → Bool → InVerdict
in_verdict disabled stalled armed = first_of ((disabled, Silent) ∷ (stalled, Stall) ∷ (armed, Send) ∷ []) Nak

abbrev pub in2_verdict : Chip → InVerdict
in2_verdict c = in_verdict (has c.registers.clrtogs ep2disab) (has c.registers.epstalls stlep2in)
    (not (eqb c.ep2.ring.waiting 0))

abbrev pub ep2_gone : Endpoint2 → Endpoint2
ep2_gone e = record { ring = release_oldest 2 e.ring; count = e.count; writepos = e.writepos; toggle = flipped e.toggle }

-- IN2BAVIRQ becomes 1 (000 page 42)
abbrev pub in2_gone : Chip → Chip
in2_gone c = raise_epirq in2bavirq (set_ep2 (ep2_gone c.ep2) c)

abbrev pub in2 : Chip → Bool → Outcome Chip Reply
in2 c acknowledged = in_outcome ep2inak (sent (is_on c.ep2.toggle) (oldest_packet 2 c.ep2.ring)) (in2_gone c) c acknowledged (in2_verdict c)

abbrev pub in3_verdict : Chip → InVerdict
in3_verdict c = in_verdict (has c.registers.clrtogs ep3disab) (has c.registers.epstalls stlep3in) (is_on c.ep3.armed)

abbrev pub ep3_gone : Endpoint3 → Endpoint3
ep3_gone e = record { bytes = e.bytes; count = e.count; armed = 0; writepos = e.writepos; toggle = flipped e.toggle }

-- IN3BAVIRQ becomes 1 (000 page 44)
abbrev pub in3_gone : Chip → Chip
in3_gone c = raise_epirq in3bavirq (set_ep3 (ep3_gone c.ep3) c)

abbrev pub in3 : Chip → Bool → Outcome Chip Reply
in3 c acknowledged = in_outcome ep3inak (sent (is_on c.ep3.toggle) (take c.ep3.count c.ep3.bytes)) (in3_gone c) c acknowledged
    (in3_verdict c)
