-- Playing a lesson: the calls of its entries, and what is written for each (document 02, Ask 5).
use Rattle.std.specs.Prelude.{cond, List, [], ◌∷◌, ◌++◌, ℕ, eqb, length}
use Rattle.refusal.specs.Number.{refusal_number}
use Rattle.chip.specs.declared.Chip.{Chip}
use Rattle.model.specs.Reply.{reply_bytes}
use Rattle.model.specs.Call.{Call, transfer, event, Answer, refused, answered, Entry}
use Rattle.spi.specs.Transfer.{transfer_answer}
use Rattle.bus.specs.EventCall.{answer_pid, event_answer}
use Rattle.flat.specs.declared.FlatAnswer.{FlatAnswer}
use Rattle.flat.specs.Answer.{flat_transfer, flat_event}
use Rattle.little_endian.specs.Number.{little_endian}
use Rattle.lesson.specs.Lesson.{LessonEntry}
use Rattle.event_body.specs.Body.{event_of, payload_of}

-- ---- the calls

-- the call of a kind and a body, with so many bytes lent for its reply: 1 is a transfer of the body, 2 the event that the body says
abbrev pub call_with : ℕ → ℕ → List ℕ → Call
call_with room kind body = cond (eqb kind 1) (transfer body room) (event (event_of body) (payload_of body) room)

-- each lent enough: no reply is longer (`lent_enough`)
abbrev pub call_of : LessonEntry → Call
call_of e = call_with 4096 e.kind e.body

-- ---- what is written for a call: its refusal or 0, the reply's PID byte or 0, a 16-bit count and the bytes

abbrev pub answer_refusal : Answer → ℕ
answer_refusal (refused r) = refusal_number r
answer_refusal (answered a) = 0

abbrev pub answer_bytes : Answer → List ℕ
answer_bytes (refused r) = []
answer_bytes (answered a) = reply_bytes a

abbrev pub result_with : ℕ → ℕ → List ℕ → List ℕ
result_with refusal pid bytes = refusal ∷ pid ∷ little_endian 2 (length bytes) ++ bytes

abbrev pub result_of : Answer → List ℕ
result_of a = result_with (answer_refusal a) (answer_pid a) (answer_bytes a)

-- the results of a history, one after the other
unfoldable pub results : List Entry → List ℕ
results [] = []
results (e ∷ es) = result_of e.answer ++ results es

-- ---- the answer of a call in numbers

abbrev pub flat_answer : Chip → Call → FlatAnswer
flat_answer c (transfer bytes room) = flat_transfer (transfer_answer c (transfer bytes room))
flat_answer c (event e vs room) = flat_event (event_answer c e vs room)
