-- What `Reply` gives is each call's own: the numbers of a reply, and the answer, by the definitions of refusal and length of that call.
use mathlib.Core.Path.{◌≡◌, refl}
use Rattle.std.specs.Prelude.{ℕ, Option, Result}
use Rattle.refusal.specs.declared.Refusal.{Refusal}
use Rattle.firmware.specs.declared.RequestReply.{RequestReply}
use Rattle.firmware.specs.Answer.{request_kind, request_count}
use Rattle.spi.specs.Transfer.{TransferAnswer, transfer_count}
use Rattle.event_answer.specs.declared.EventReply.{EventReply}
use Rattle.event_answer.specs.Answer.{EventAnswer}
use Rattle.bus.specs.EventCall.{event_pid, event_count}
use Rattle.board.specs.Board.{step_kind, step_count}
use Rattle.flat.specs.Answer.{numbers_of, transfer_numbers, event_numbers, step_numbers, request_numbers}
use Rattle.flat.specs.Answer.{flat_answer_of, flat_transfer, flat_event}

-- ---- a reply

pub transfer_numbers_law : (r : Result ℕ Refusal) → numbers_of (λ s. 0) transfer_count r ≡ transfer_numbers r
transfer_numbers_law r = refl

pub event_numbers_law : (r : Result EventReply Refusal) → numbers_of event_pid event_count r ≡ event_numbers r
event_numbers_law r = refl

pub step_numbers_law : (r : Result (Option RequestReply) Refusal) → numbers_of step_kind step_count r ≡ step_numbers r
step_numbers_law r = refl

pub request_numbers_law : (r : Result RequestReply Refusal) → numbers_of request_kind request_count r ≡ request_numbers r
request_numbers_law r = refl

-- ---- a whole answer

pub flat_transfer_law : (a : TransferAnswer) → flat_answer_of (λ s. 0) transfer_count a ≡ flat_transfer a
unfolding flat_answer_of flat_transfer
flat_transfer_law a = refl

pub flat_event_law : (a : EventAnswer) → flat_answer_of event_pid event_count a ≡ flat_event a
unfolding flat_answer_of flat_event
flat_event_law a = refl
