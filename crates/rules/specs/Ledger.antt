-- The ledger (document 01's book): what was armed, acknowledged, stored and released, read off the calls and their answers alone.
-- Its rules are those of "The book of demand 3"; as a book it never sees a record.
use Rattle.std.specs.Prelude.{Bool, true, false, cond, ◌&&◌, List, [], ◌∷◌, ◌++◌, ℕ, ◌+◌, ◌-◌, ◌*◌, ◌%◌, eqb, leb, length, get_or, set, take, drop, replicate}
use Rattle.std.specs.Bool.{beq}
use Rattle.std.specs.Int.Bits.{bit_and}
use Rattle.bits.specs.Bit.{has, rises}
use Rattle.bits.specs.Flag.{is_on, flipped}
use Rattle.ring.specs.Ring.{packet}
use Rattle.chip.specs.declared.Power.{Power}
use Rattle.chip.specs.Mask.{ctgep1out, out1davirq, usbctl_bits, chipres}
use Rattle.chip.specs.Set.{with_vbus, with_oscok}
use Rattle.reset.specs.declared.Reset.{Reset}
use Rattle.reset.specs.declared.Reset.TheVariants.{PowerOn, ChipReset, BusReset}
use Rattle.reset.specs.Table.{register_after}
use Rattle.reset.specs.Reset.{bytes_after, power_after}
use Rattle.model.specs.declared.Event.{Event}
use Rattle.model.specs.Reply.{Reply, transferred, done, silence, ack, nak, stall, sent}
use Rattle.model.specs.Book.{Book}
use Rattle.rules.specs.Write.{store_fifo, arm_buffer, toggle_cleared}
use Rattle.rules.specs.Spi.{step_register}
use Rattle.rules.specs.Seen.{Connection, seen}

-- endpoint 2: the lists, its buffers, the next to be armed and the write position
pub record Sender : Type 0 where
  pub armed : List (List ℕ)
  pub acknowledged : List (List ℕ)
  pub bytes : List ℕ
  pub turn : ℕ
  pub writepos : ℕ

-- endpoint 1: the lists and the toggle, 1 for DATA1
pub record Receiver : Type 0 where
  pub stored : List (List ℕ)
  pub released : List (List ℕ)
  pub toggle : ℕ

-- and R15, VBUS and oscillator flag
pub record Ledger : Type 0 where
  pub sender : Sender
  pub receiver : Receiver
  pub connection : Connection

abbrev pub set_sender : Sender → Ledger → Ledger
set_sender x l = record { sender = x; receiver = l.receiver; connection = l.connection }

abbrev pub set_receiver : Receiver → Ledger → Ledger
set_receiver x l = record { sender = l.sender; receiver = x; connection = l.connection }

abbrev pub set_connection : Connection → Ledger → Ledger
set_connection x l = record { sender = l.sender; receiver = l.receiver; connection = x }

abbrev pub noted_usbctl : ℕ → Ledger → Ledger
noted_usbctl x l = set_connection (record { usbctl = x; power = l.connection.power }) l

abbrev pub noted_power : Power → Ledger → Ledger
noted_power x l = set_connection (record { usbctl = l.connection.usbctl; power = x }) l

-- from power-on: empty lists
abbrev pub blank : Ledger
blank = record {
  sender = record { armed = []; acknowledged = []; bytes = replicate 128 0; turn = 0; writepos = 0 };
  receiver = record { stored = []; released = []; toggle = 0 };
  connection = record { usbctl = 0; power = record { vbus = 0; oscok = 0 } };
}

-- armed less acknowledged is how many wait at endpoint 2
abbrev pub waiting_at2 : Sender → ℕ
waiting_at2 s = length s.armed - length s.acknowledged

-- ---- resets that reach the endpoints: lists empty, the rest by the reset rules

abbrev pub connection_after : Reset → Connection → Connection
connection_after k l = record { usbctl = register_after k 15 l.usbctl; power = power_after k l.power }

abbrev pub ledger_after : Reset → Ledger → Ledger
ledger_after k l = record {
  sender = record { armed = []; acknowledged = []; bytes = bytes_after k 128 l.sender.bytes; turn = 0; writepos = 0 };
  receiver = record { stored = []; released = []; toggle = 0 };
  connection = connection_after k l.connection;
}

-- ---- R2, R7, R10 and R15 act by their rules for writes; a 1 written to OUT1DAVIRQ releases

abbrev pub LedgerWrite : Type 0
LedgerWrite = Ledger → ℕ → Ledger

abbrev pub unnoted_write : LedgerWrite
unnoted_write l b = l

-- R2: the byte is stored at the write position of the buffer in turn, which moves on; ignored at 64, and while two wait
abbrev pub sender_stored : Sender → ℕ → Sender
sender_stored s b = record {
  armed = s.armed;
  acknowledged = s.acknowledged;
  bytes = set s.bytes (s.turn * 64 + s.writepos) b;
  turn = s.turn;
  writepos = s.writepos + 1;
}

abbrev pub note_ep2infifo : LedgerWrite
note_ep2infifo l b = store_fifo l.sender.writepos (leb 2 (waiting_at2 l.sender)) l (set_sender (sender_stored l.sender b) l)

-- R7: the first n bytes of the buffer in turn, as it stands, join armed; over 64, or while two wait, ignored
abbrev pub sender_armed : Sender → ℕ → Sender
sender_armed s n = record {
  armed = s.armed ++ (packet s.bytes s.turn n ∷ []);
  acknowledged = s.acknowledged;
  bytes = s.bytes;
  turn = (s.turn + 1) % 2;
  writepos = 0;
}

abbrev pub note_ep2inbc : LedgerWrite
note_ep2inbc l n = arm_buffer n (leb 2 (waiting_at2 l.sender)) l (set_sender (sender_armed l.sender n) l)

-- R10: a 1 in bit 2 sets endpoint 1's toggle to DATA0
abbrev pub note_clrtogs : LedgerWrite
note_clrtogs l b =
    set_receiver (record {
      stored = l.receiver.stored;
      released = l.receiver.released;
      toggle = toggle_cleared ctgep1out b l.receiver.toggle;
    }) l

-- R11: a 1 in OUT1DAVIRQ adds the oldest stored packet not released, if any, to released
abbrev pub oldest_kept : Receiver → List (List ℕ)
oldest_kept r = take 1 (drop (length r.released) r.stored)

abbrev pub receiver_released : Receiver → Receiver
receiver_released r = record { stored = r.stored; released = r.released ++ oldest_kept r; toggle = r.toggle }

abbrev pub note_epirq : LedgerWrite
note_epirq l b = cond (has b out1davirq) (set_receiver (receiver_released l.receiver) l) l

-- R15: bits 7..2; CHIPRES going 0 to 1 is a chip reset
abbrev pub note_rise : ℕ → Ledger → Ledger
note_rise before l = cond (rises chipres before l.connection.usbctl) (ledger_after ChipReset l) l

abbrev pub note_usbctl : LedgerWrite
note_usbctl l b = note_rise l.connection.usbctl (noted_usbctl (bit_and b usbctl_bits) l)

-- R0 to R15; of the registers past them nothing is noted
abbrev pub ledger_writes : List LedgerWrite
ledger_writes =
    unnoted_write ∷ unnoted_write ∷ note_ep2infifo ∷ unnoted_write ∷ unnoted_write ∷ unnoted_write ∷ unnoted_write ∷ note_ep2inbc ∷
    unnoted_write ∷ unnoted_write ∷ note_clrtogs ∷ note_epirq ∷ unnoted_write ∷ unnoted_write ∷ unnoted_write ∷ note_usbctl ∷ []

-- ---- events

abbrev pub LedgerEvent : Type 0
LedgerEvent = Ledger → Event → List ℕ → Reply → Ledger

abbrev pub unnoted_event : LedgerEvent
unnoted_event l e vs a = l

abbrev pub note_power_on : LedgerEvent
note_power_on l e vs a = ledger_after PowerOn l

abbrev pub note_stable : LedgerEvent
note_stable l e vs a = cond (has l.connection.usbctl chipres) l (noted_power (with_oscok 1 l.connection.power) l)

abbrev pub note_vbus : ℕ → LedgerEvent
note_vbus x l e vs a = noted_power (with_vbus x l.connection.power) l

-- a seen bus reset start
abbrev pub note_reset_start : LedgerEvent
note_reset_start l e vs a = cond (seen l.connection) (ledger_after BusReset l) l

-- OUT at endpoint 1 with the toggle held, answered ACK: its payload joins stored, the toggle flips
abbrev pub receiver_stored : Receiver → List ℕ → Receiver
receiver_stored r vs = record { stored = r.stored ++ (vs ∷ []); released = r.released; toggle = flipped r.toggle }

abbrev pub is_ack : Reply → Bool
is_ack (transferred vs) = false
is_ack done = false
is_ack silence = false
is_ack ack = true
is_ack nak = false
is_ack stall = false
is_ack (sent t vs) = false

abbrev pub note_out : LedgerEvent
note_out l e vs a =
    cond ((eqb e.endpoint.0 1 && is_ack a) && beq e.data1 (is_on l.receiver.toggle)) (set_receiver (receiver_stored l.receiver vs) l) l

-- IN at endpoint 2 answered with data, its ACK arriving: the reply's bytes join acknowledged
abbrev pub sender_acknowledged : Sender → List ℕ → Sender
sender_acknowledged s vs = record
    { armed = s.armed; acknowledged = s.acknowledged ++ (vs ∷ []); bytes = s.bytes; turn = s.turn; writepos = s.writepos }

abbrev pub note_sent : Ledger → Reply → Ledger
note_sent l (transferred vs) = l
note_sent l done = l
note_sent l silence = l
note_sent l ack = l
note_sent l nak = l
note_sent l stall = l
note_sent l (sent t vs) = set_sender (sender_acknowledged l.sender vs) l

abbrev pub note_in : LedgerEvent
note_in l e vs a = cond (eqb e.endpoint.0 2 && e.acknowledged) (note_sent l a) l

abbrev pub ledger_events : List LedgerEvent
ledger_events =
    unnoted_event ∷ note_power_on ∷ note_stable ∷ note_vbus 1 ∷ note_vbus 0 ∷ unnoted_event ∷ note_reset_start ∷ unnoted_event ∷
    unnoted_event ∷ unnoted_event ∷ unnoted_event ∷ note_out ∷ note_in ∷ []

-- ---- how it reads the calls of the MAX3420E

abbrev pub max3420e_ledger : Book Ledger
max3420e_ledger = record {
  write = λ n. get_or ledger_writes n unnoted_write;
  step = step_register;
  event = λ n. get_or ledger_events n unnoted_event;
}
