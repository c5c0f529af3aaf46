-- What a transfer hands back, from the answer of the model and the record after the call (document 01, "The SPI side" and
-- "Numbers of refusal").
use Rattle.refusal.specs.declared.Refusal.{Refusal}
use Rattle.std.specs.Prelude.{ℕ, length, Result, Ok, Err}
use Rattle.refusal.specs.Check.{tells}
use Rattle.refusal.specs.Check.{checked_number, checked_found}
use Rattle.chip.specs.declared.Chip.{Chip}
use Rattle.chip.specs.Pin.{pin_of}
use Rattle.model.specs.Reply.{reply_bytes}
use Rattle.model.specs.Call.{Call, Answer, refused, answered, call_to, answer_of}
use Rattle.rules.specs.Event.{max3420e}
use Rattle.chip.specs.declared.CallAnswer.{CallAnswer}

-- what a transfer hands back
abbrev pub TransferAnswer : Type 0
TransferAnswer = CallAnswer Chip ℕ

-- the refusal, or how many bytes the reply counts
abbrev pub transfer_reply_of : Answer → Result ℕ Refusal
transfer_reply_of (refused r) = Err r
transfer_reply_of (answered a) = Ok (length (reply_bytes a))

-- the pin is that of the record handed back
abbrev pub transfer_answer_with : Chip → Answer → TransferAnswer
transfer_answer_with after a = record { state = after; reply = transfer_reply_of a; pin = pin_of after.registers }

abbrev pub transfer_answer : Chip → Call → TransferAnswer
transfer_answer c k = transfer_answer_with (call_to max3420e c k) (answer_of max3420e c k)

-- ---- numbers

-- the number of refusal, and the length that it tells; 0 is none
abbrev pub transfer_refusal : Result ℕ Refusal → ℕ
transfer_refusal r = checked_number (tells r)

abbrev pub transfer_found : Result ℕ Refusal → ℕ
transfer_found r = checked_found (tells r)

-- how many bytes of the lent buffer are the reply
abbrev pub transfer_count : Result ℕ Refusal → ℕ
transfer_count (Err r) = 0
transfer_count (Ok n) = n
