-- What a call of the bus side hands back: the record, the reply and the INT pin.
use Rattle.refusal.specs.declared.Refusal.{Refusal}
use Rattle.std.specs.Prelude.{Bool, cond, List, ℕ, length, Result, Ok}
use Rattle.chip.specs.declared.Chip.{Chip}
use Rattle.chip.specs.Pin.{pin_of}
use Rattle.model.specs.Reply.{Outcome, Reply, transferred, done, silence, ack, nak, stall, sent, reply_bytes, lent}
use Rattle.event_answer.specs.declared.EventReply.{EventReply}
use Rattle.event_answer.specs.declared.EventReply.TheVariants.{Done, Silence, Ack, Nak, Stall, Data0, Data1}
use Rattle.chip.specs.declared.CallAnswer.{CallAnswer}

-- what an event hands back
abbrev pub EventAnswer : Type 0
EventAnswer = CallAnswer Chip EventReply

-- a data packet of n bytes
abbrev pub data_reply : Bool → ℕ → EventReply
data_reply data1 n = cond data1 (Data1 n) (Data0 n)

-- a model's reply without its bytes; an event is never replied with a transfer's bytes, so what that gives does not matter
abbrev pub event_reply : Reply → EventReply
event_reply (transferred vs) = Done
event_reply done = Done
event_reply silence = Silence
event_reply ack = Ack
event_reply nak = Nak
event_reply stall = Stall
event_reply (sent data1 vs) = data_reply data1 (length vs)

-- the pin is that of the record handed back
abbrev pub event_answer_with : Chip → Result EventReply Refusal → EventAnswer
event_answer_with c a = record { state = c; reply = a; pin = pin_of c.registers }

abbrev pub outcome_answer : Outcome Chip Reply → EventAnswer
outcome_answer o = event_answer_with o.state (Ok (event_reply o.gives))

-- the lent buffer after it
abbrev pub outcome_buffer : Outcome Chip Reply → List ℕ → List ℕ
outcome_buffer o buffer = lent (reply_bytes o.gives) buffer
