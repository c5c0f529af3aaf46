-- OUT at endpoints 0 and 1: the verdict, which is what the first rule gives that applies; then the record and the reply for each
-- verdict (document 01, "The bus side"; 000 pages 51, 53).
use Rattle.std.specs.Prelude.{Bool, not, List, [], ◌∷◌, ℕ, eqb, length}
use Rattle.std.specs.Bool.{beq}
use Rattle.std.proofs.lemmas.List.Edits.{sets}
use Rattle.bits.specs.Bit.{has}
use Rattle.bits.specs.First.{first_of}
use Rattle.bits.specs.Flag.{is_on, flipped}
use Rattle.ring.specs.Ring.{full, fill_next}
use Rattle.chip.specs.declared.Endpoint0.{Endpoint0}
use Rattle.chip.specs.declared.Endpoint1.{Endpoint1}
use Rattle.chip.specs.declared.Chip.{Chip}
use Rattle.chip.specs.Mask.{ackstat, stlstat, stlep0out, stlep1out, ep1disab, out0davirq, out1davirq}
use Rattle.chip.specs.Set.{set_ep0, set_ep1}
use Rattle.model.specs.Reply.{Outcome, outcome, Reply, silence, ack, nak, stall}
use Rattle.rules.specs.declared.OutVerdict.{OutVerdict}
use Rattle.rules.specs.declared.OutVerdict.TheVariants.{Silent, Stall, Nak, Drop, Store, Status}
use Rattle.rules.specs.Write.{raise_epirq, ep0_busy}
use Rattle.rules.specs.Control.{w_length, reading}

-- the record after, where it is `taken` once the payload is stored, and the handshake
abbrev pub out_outcome : Chip → Chip → OutVerdict → Outcome Chip Reply
out_outcome c taken Silent = outcome c silence
out_outcome c taken Stall = outcome c stall
out_outcome c taken Nak = outcome c nak
out_outcome c taken Drop = outcome c ack
out_outcome c taken Store = outcome taken ack
out_outcome c taken Status = outcome c ack

-- ---- endpoint 0

-- status (000 pages 1, 64): STALL if STLSTAT or if it isn't empty (h, decision 51); else with ACKSTAT=1 ACK; else NAK
abbrev pub out0_status : Chip → ℕ → OutVerdict
out0_status c n =
    first_of ((has c.registers.epstalls stlstat, Stall) ∷ (not (eqb n 0), Stall) ∷ (has c.registers.epstalls ackstat, Status) ∷
    []) Nak

-- data: STALL if STLEP0OUT is set (000 page 60) or wLength is 0 (h); NAK if there is no room: OUT0DAVIRQ=1 or armed; wrong toggle:
-- ACK, dropped; else stored
abbrev pub out0_data : Chip → Bool → OutVerdict
out0_data c data1 =
    first_of
    ((has c.registers.epstalls stlep0out, Stall) ∷ (eqb (w_length c) 0, Stall) ∷ (ep0_busy c, Nak)
    ∷ (not (beq data1 (is_on c.ep0.outtoggle)), Drop) ∷ []) Store

-- with no SETUP current: STALL if STLEP0OUT is set, else NAK (decision 19)
abbrev pub out0_idle : Chip → OutVerdict
out0_idle c = first_of ((has c.registers.epstalls stlep0out, Stall) ∷ []) Nak

abbrev pub out0_verdict : Chip → Bool → ℕ → OutVerdict
out0_verdict c data1 n = first_of ((not (is_on c.ep0.current), out0_idle c) ∷ (reading c, out0_status c n) ∷ []) (out0_data c data1)

-- stored at the buffer's start (the rest stays), the toggle flips; the read position becomes 0 and the write position stays
abbrev pub ep0_filled : Endpoint0 → List ℕ → Endpoint0
ep0_filled e vs = record {
  bytes = sets e.bytes 0 vs;
  setup = e.setup;
  count = length vs;
  armed = e.armed;
  readpos = 0;
  writepos = e.writepos;
  setuppos = e.setuppos;
  intoggle = e.intoggle;
  outtoggle = flipped e.outtoggle;
  current = e.current;
}

-- OUT0DAVIRQ is set (000 page 51)
abbrev pub out0_taken : Chip → List ℕ → Chip
out0_taken c vs = raise_epirq out0davirq (set_ep0 (ep0_filled c.ep0 vs) c)

abbrev pub out0 : Chip → Bool → List ℕ → Outcome Chip Reply
out0 c data1 vs = out_outcome c (out0_taken c vs) (out0_verdict c data1 (length vs))

-- ---- endpoint 1

-- silence if disabled (000 page 12); STALL if STLEP1OUT is set (61); NAK if two wait; wrong toggle: ACK, dropped; else stored
abbrev pub out1_verdict : Chip → Bool → OutVerdict
out1_verdict c data1 =
    first_of
    ((has c.registers.clrtogs ep1disab, Silent) ∷ (has c.registers.epstalls stlep1out, Stall) ∷ (full 2 c.ep1.ring, Nak)
    ∷ (not (beq data1 (is_on c.ep1.toggle)), Drop) ∷ []) Store

-- stored in the next buffer, the toggle flips
abbrev pub ep1_filled : Endpoint1 → List ℕ → Endpoint1
ep1_filled e vs = record { ring = fill_next 2 e.ring vs; readpos = e.readpos; toggle = flipped e.toggle }

-- OUT1DAVIRQ is set (000 page 53)
abbrev pub out1_taken : Chip → List ℕ → Chip
out1_taken c vs = raise_epirq out1davirq (set_ep1 (ep1_filled c.ep1 vs) c)

abbrev pub out1 : Chip → Bool → List ℕ → Outcome Chip Reply
out1 c data1 vs = out_outcome c (out1_taken c vs) (out1_verdict c data1)
