-- The answer of the public call, by the MAX3420E as a model; and what it is in numbers: refusal, PID, count.
use Rattle.refusal.specs.declared.Refusal.{Refusal}
use Rattle.std.specs.Prelude.{cond, List, ℕ, length, get_or, Result, Ok, Err}
use Rattle.refusal.specs.Check.{tells}
use Rattle.refusal.specs.Check.{checked_number, checked_found}
use Rattle.chip.specs.declared.Chip.{Chip}
use Rattle.model.specs.declared.Event.{Event}
use Rattle.model.specs.Reply.{Outcome, Reply, transferred, done, silence, ack, nak, stall, sent}
use Rattle.model.specs.Call.{Call, event, Answer, refused, answered, call_to, answer_of, buffer_after}
use Rattle.rules.specs.Event.{event_rules, no_event, max3420e}
use Rattle.event_answer.specs.declared.EventReply.{EventReply}
use Rattle.event_answer.specs.declared.EventReply.TheVariants.{Done, Silence, Ack, Nak, Stall, Data0, Data1}
use Rattle.event_answer.specs.Answer.{EventAnswer, event_reply, event_answer_with}

-- what an accepted event leaves and is replied, by its code
abbrev pub event_outcome : Chip → Event → List ℕ → Outcome Chip Reply
event_outcome c e vs = get_or event_rules e.code no_event c e vs

-- ---- the whole answer

abbrev pub event_reply_of : Answer → Result EventReply Refusal
event_reply_of (refused r) = Err r
event_reply_of (answered a) = Ok (event_reply a)

-- the record after the call, its reply, and the pin of that record
abbrev pub call_answer : Chip → Call → EventAnswer
call_answer c k = event_answer_with (call_to max3420e c k) (event_reply_of (answer_of max3420e c k))

abbrev pub event_answer : Chip → Event → List ℕ → ℕ → EventAnswer
event_answer c e vs room = call_answer c (event e vs room)

-- the lent buffer after it
abbrev pub event_buffer : Chip → Event → List ℕ → List ℕ → List ℕ
event_buffer c e vs buffer = buffer_after (answer_of max3420e c (event e vs (length buffer))) buffer

-- ---- in numbers

-- the number of refusal, and the length that it tells; 0 is none
abbrev pub event_refusal : Result EventReply Refusal → ℕ
event_refusal r = checked_number (tells r)

abbrev pub event_found : Result EventReply Refusal → ℕ
event_found r = checked_found (tells r)

-- the PID byte on the bus (USB 2.0, 8.3.1: four bits, and their complement above); 0 where nothing is sent
abbrev pub event_pid : Result EventReply Refusal → ℕ
event_pid (Err r) = 0
event_pid (Ok Done) = 0
event_pid (Ok Silence) = 0
event_pid (Ok Ack) = 0xD2
event_pid (Ok Nak) = 0x5A
event_pid (Ok Stall) = 0x1E
event_pid (Ok (Data0 n)) = 0xC3
event_pid (Ok (Data1 n)) = 0x4B

-- the bytes of the data packet; 0 where there is none
abbrev pub event_count : Result EventReply Refusal → ℕ
event_count (Err r) = 0
event_count (Ok Done) = 0
event_count (Ok Silence) = 0
event_count (Ok Ack) = 0
event_count (Ok Nak) = 0
event_count (Ok Stall) = 0
event_count (Ok (Data0 n)) = n
event_count (Ok (Data1 n)) = n

-- the same of the model's answer
abbrev pub answer_pid : Answer → ℕ
answer_pid (refused r) = 0
answer_pid (answered (transferred vs)) = 0
answer_pid (answered done) = 0
answer_pid (answered silence) = 0
answer_pid (answered ack) = 0xD2
answer_pid (answered nak) = 0x5A
answer_pid (answered stall) = 0x1E
answer_pid (answered (sent data1 vs)) = cond data1 0x4B 0xC3

abbrev pub answer_count : Answer → ℕ
answer_count (refused r) = 0
answer_count (answered (transferred vs)) = 0
answer_count (answered done) = 0
answer_count (answered silence) = 0
answer_count (answered ack) = 0
answer_count (answered nak) = 0
answer_count (answered stall) = 0
answer_count (answered (sent data1 vs)) = length vs
