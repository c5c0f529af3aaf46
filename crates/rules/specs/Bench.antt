-- The bench cases of document 01, each a list of calls with its answers and the pin after each, from the power-on records of chip
-- and firmware. All numbers in hex.
use Rattle.refusal.specs.declared.Refusal.{Refusal}
use Rattle.chip.specs.declared.Pin.{Pin}
use Rattle.std.specs.Prelude.{Bool, true, false, not, cond, List, [], ◌∷◌, ◌++◌, ℕ, zero, suc, replicate, take, Result, Ok}
use Rattle.chip.specs.declared.Chip.{Chip}
use Rattle.chip.specs.declared.Pin.TheVariants.{Low, High, Open}
use Rattle.chip.specs.Record.{power_on_chip}
use Rattle.chip.specs.Pin.{pin_reply}
use Rattle.chip.specs.Same.{same_chip}
use Rattle.descriptor.specs.Table.{device}
use Rattle.request.specs.declared.Firmware.{Firmware}
use Rattle.request.specs.Record.{power_on_firmware}
use Rattle.firmware.specs.declared.RequestReply.{RequestReply}
use Rattle.firmware.specs.declared.RequestReply.TheVariants.{Ack, Data}
use Rattle.firmware.specs.Answer.{handled, request_count}
use Rattle.model.specs.declared.Event.{Event}
use Rattle.model.specs.Reply.{Reply, transferred, done, ack, nak, sent}
use Rattle.model.specs.Call.{Call, transfer, event, Answer, answered, answer_of, call_to}
use Rattle.rules.specs.Event.{max3420e}

-- ---- what a case says

-- a call with its answer and the pin after it; the same, and the record is unchanged; or the firmware is asked, with its reply and the
-- bytes that it counts
pub data Step : Type 0 where
  called still : Call → Answer → Result Pin Refusal → Step
  asked : List ℕ → Result RequestReply Refusal → List ℕ → Step

-- the step as the rules make it; one that is to leave the record unchanged is so only if the two records are the same (`same_chip_law`:
-- then they are equal)
abbrev pub called_on : Chip → Call → Step
called_on c k = called k (answer_of max3420e c k) (pin_reply (call_to max3420e c k))

abbrev pub still_on : Chip → Call → Step
still_on c k =
    cond (same_chip c (call_to max3420e c k)) (still k (answer_of max3420e c k) (pin_reply (call_to max3420e c k))) (called_on c k)

-- what the rules answer to the calls of a case, and the firmware to what it is asked, lent 64 bytes
abbrev pub played_from : Chip → Firmware → List Step → List Step
played_from c f [] = []
played_from c f (called k a p ∷ ss) = called_on c k ∷ played_from (call_to max3420e c k) f ss
played_from c f (still k a p ∷ ss) = still_on c k ∷ played_from (call_to max3420e c k) f ss
played_from c f (asked setup r vs ∷ ss) =
    let o = handled setup f (replicate 64 0) in
    asked setup o.answer.reply (take (request_count o.answer.reply) o.buffer) ∷ played_from c o.answer.firmware ss

abbrev pub played : List Step → List Step
played ss = played_from power_on_chip power_on_firmware ss

-- ---- calls; in edge mode the inactive pin is high

-- a transfer and its reply, lent as many bytes as it may have
abbrev pub spi : List ℕ → List ℕ → Step
spi bytes reply = called (transfer bytes 4096) (answered (transferred reply)) (Ok High)

abbrev pub plain : ℕ → Event
plain code = record { code = code; pins = 0; address = 0; endpoint = record { 0 = 0 }; damaged = false; data1 = false; acknowledged = false }

abbrev pub signals : ℕ → Step
signals code = called (event (plain code) [] 0) (answered done) (Ok High)

-- OUT to an endpoint, DATA1 where true
abbrev pub out : ℕ → Bool → List ℕ → Reply → Step
out endpoint toggle vs a =
    called
    (event (record { code = 11; pins = 0; address = 0; endpoint = record { 0 = endpoint }; damaged = false; data1 = toggle; acknowledged = false }) vs 0)
    (answered a) (Ok High)

-- IN to an endpoint, whose ACK arrives where true
abbrev pub «in» : ℕ → Bool → Reply → Step
«in» endpoint arrives a =
    called
    (event (record { code = 12; pins = 0; address = 0; endpoint = record { 0 = endpoint }; damaged = false; data1 = false; acknowledged = arrives }) [] 64)
    (answered a) (Ok High)

abbrev pub setup : List ℕ → Step
setup vs = called (event (plain 10) vs 0) (answered ack) (Ok High)

-- the same step, of which the record comes out unchanged
abbrev pub no_change : Step → Step
no_change (called k a p) = still k a p
no_change (still k a p) = still k a p
no_change (asked s r vs) = asked s r vs

-- the same step with another level of the pin
abbrev pub pinned : Result Pin Refusal → Step → Step
pinned p (called k a q) = called k a p
pinned p (still k a q) = still k a p
pinned p (asked s r vs) = asked s r vs

-- a register is written, a register reads
abbrev pub writes : ℕ → ℕ → Step
writes command x = spi (command ∷ x ∷ []) (0 ∷ 0 ∷ [])

abbrev pub reads : ℕ → ℕ → Step
reads command x = spi (command ∷ 0 ∷ []) (0 ∷ x ∷ [])

-- powered, stable, 7A 08 sent
abbrev pub on : List Step
on = signals 1 ∷ signals 2 ∷ writes 0x7a 0x08 ∷ []

-- R7 is x, R11 is x
abbrev pub r7 : ℕ → Step
r7 x = reads 0x38 x

abbrev pub r11 : ℕ → Step
r11 x = reads 0x58 x

-- ---- the cases

abbrev pub case1 : List Step
case1 = on ++ (spi (0x58 ∷ 0x00 ∷ []) (0x00 ∷ 0x19 ∷ []) ∷ [])

-- `91` is a command byte alone; R9 then reads ACKSTAT=1
abbrev pub case2 : List Step
case2 = on ++ (writes 0x8a 0x10 ∷ spi (0x91 ∷ []) (0x19 ∷ []) ∷ spi (0x48 ∷ 0 ∷ []) (0x19 ∷ 0x40 ∷ []) ∷ [])

-- `12 b`, `3A 01`: a packet of one byte is armed; the third changes nothing, neither by its byte nor by its count
abbrev pub case3 : List Step
case3 =
    on
    ++ (writes 0x12 0x01 ∷ writes 0x3a 0x01 ∷ r11 0x19 ∷ writes 0x12 0x02 ∷ writes 0x3a 0x01 ∷ r11 0x11
    ∷ no_change (writes 0x12 0x03) ∷ no_change (writes 0x3a 0x01) ∷ r11 0x11 ∷ [])

abbrev pub case4 : List Step
case4 =
    case3
    ++ («in» 2 false (sent false (0x01 ∷ [])) ∷ r11 0x11 ∷ «in» 2 true (sent false (0x01 ∷ [])) ∷ r11 0x19 ∷ «in» 2 true
    (sent true (0x02 ∷ [])) ∷ [])

-- a count of 41 changes nothing; 40 arms 64 bytes, 00 an empty packet
abbrev pub case5 : List Step
case5 =
    on
    ++ (no_change (writes 0x3a 0x41) ∷ r11 0x19 ∷ r7 0x00 ∷ writes 0x3a 0x40 ∷ r7 0x40 ∷ writes 0x3a 0x00 ∷ r7 0x00 ∷ r11 0x11
    ∷ «in» 2 true (sent false (replicate 64 0)) ∷ «in» 2 true (sent true []) ∷ [])

abbrev pub case6 : List Step
case6 =
    on
    ++ (spi (0x1a ∷ 0x00 ∷ 0x00 ∷ 0x08 ∷ []) (0 ∷ 0 ∷ 0 ∷ 0 ∷ []) ∷ writes 0x42 0x03 ∷ r11 0x09
    ∷ «in» 3 true (sent false (0x00 ∷ 0x00 ∷ 0x08 ∷ [])) ∷ [])

abbrev pub case7 : List Step
case7 =
    spi (0xa2 ∷ 0x05 ∷ 0x0a ∷ []) (0 ∷ 0 ∷ 0 ∷ []) ∷ spi (0x98 ∷ 0x00 ∷ 0x00 ∷ 0x00 ∷ []) (0 ∷ 0x00 ∷ 0x0a ∷ 0x0a ∷ []) ∷ []

-- in level mode: open until a SETUP sets SUDAVIRQ, low then, open again when the bit is cleared
abbrev pub case8 : List Step
case8 =
    on
    ++ (pinned (Ok Open) (writes 0x8a 0x08) ∷ pinned (Ok Open) (writes 0x82 0x01) ∷ pinned (Ok Open) (writes 0x62 0x20)
    ∷ pinned (Ok Low) (setup (0x80 ∷ 0x06 ∷ 0x00 ∷ 0x01 ∷ 0 ∷ 0 ∷ 0x40 ∷ 0 ∷ [])) ∷ pinned (Ok Open) (writes 0x5a 0x20) ∷ [])

abbrev pub case9 : List Step
case9 =
    on
    ++ (out 1 false (0x07 ∷ 0x08 ∷ []) ack ∷ out 1 true (0x09 ∷ []) ack ∷ out 1 false (0x05 ∷ []) nak ∷ writes 0x5a 0x04 ∷ r11 0x1d
    ∷ writes 0x5a 0x04 ∷ r11 0x19 ∷ [])

-- the device descriptor asked with wLength 64: 18 bytes; 8: 8; 0: ACK only
abbrev pub ask_device : ℕ → List ℕ
ask_device wlength = 0x80 ∷ 0x06 ∷ 0x00 ∷ 0x01 ∷ 0x00 ∷ 0x00 ∷ wlength ∷ 0x00 ∷ []

abbrev pub case10 : List Step
case10 = asked (ask_device 64) (Ok (Data 18)) device ∷ asked (ask_device 8) (Ok (Data 8)) (take 8 device) ∷ asked (ask_device 0) (Ok Ack) [] ∷ []

abbrev pub cases : List (List Step)
cases = case1 ∷ case2 ∷ case3 ∷ case4 ∷ case5 ∷ case6 ∷ case7 ∷ case8 ∷ case9 ∷ case10 ∷ []

-- ---- a longer run: n packets, armed and acknowledged one after the other, the toggle alternating from t on

abbrev pub packets_of : Bool → ℕ → List Step
packets_of t zero = []
packets_of t (suc n) = (writes 0x12 n ∷ writes 0x3a 0x01 ∷ «in» 2 true (sent t (n ∷ [])) ∷ []) ++ packets_of (not t) n
