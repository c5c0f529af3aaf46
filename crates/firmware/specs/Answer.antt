-- The firmware's answer to a call: the answer, and the reply buffer after it (document 01, "The firmware" and "Numbers
-- of refusal").
use Rattle.std.specs.Prelude.{◌≡◌, Bool, not, cond, List, [], ◌∷◌, ℕ, eqb, ltb, length, Result, Ok, Err}
use Rattle.refusal.specs.declared.Refusal.{Refusal}
use Rattle.refusal.specs.declared.Refusal.TheVariants.{Unsound, ShortBuffer, SetupPayload}
use Rattle.refusal.specs.Check.{Checked, tells}
use Rattle.refusal.specs.Check.{check, checked_number, checked_found, unless_refused}
use Rattle.descriptor.specs.Send.{count, written}
use Rattle.descriptor.specs.Table.{data_bytes}
use Rattle.request.specs.Record.{sound_firmware}
use Rattle.request.specs.Request.{request_of, decision_of}
use Rattle.request.specs.declared.Firmware.{Firmware}
use Rattle.request.specs.declared.Request.{Request}
use Rattle.request.specs.declared.Decision.{Decision}
use Rattle.request.specs.declared.Endpoints.TheVariants.{Unchanged}
use Rattle.firmware.specs.declared.RequestReply.{RequestReply}
use Rattle.firmware.specs.declared.RequestReply.TheVariants.{Stall, Ack, Data}
use Rattle.firmware.specs.declared.RequestAnswer.{RequestAnswer}

-- ---- numbers

-- the number of refusal, and the length that it tells; 0 is none
abbrev pub request_refusal : Result RequestReply Refusal → ℕ
request_refusal r = checked_number (tells r)

abbrev pub request_found : Result RequestReply Refusal → ℕ
request_found r = checked_found (tells r)

-- 1 STALL, 2 ACK only, 3 data and ACK; 0 is no answer
abbrev pub request_kind : Result RequestReply Refusal → ℕ
request_kind (Err r) = 0
request_kind (Ok Stall) = 1
request_kind (Ok Ack) = 2
request_kind (Ok (Data n)) = 3

-- the bytes that the reply counts
abbrev pub request_count : Result RequestReply Refusal → ℕ
request_count (Err r) = 0
request_count (Ok Stall) = 0
request_count (Ok Ack) = 0
request_count (Ok (Data n)) = n

-- ---- what a request is answered

-- the answer, and the reply buffer after the call
pub record Handled : Type 0 where
  pub answer : RequestAnswer
  pub buffer : List ℕ

-- the record and the endpoints stay
abbrev pub unchanged : Result RequestReply Refusal → Firmware → RequestAnswer
unchanged r f = record { reply = r; firmware = f; endpoints = Unchanged }

-- n bytes and ACK; n = 0 is ACK only
abbrev pub counted : ℕ → RequestReply
counted n = cond (eqb n 0) Ack (Data n)

abbrev pub decision_served : Decision → ℕ → Firmware → List ℕ → Handled
decision_served Decision.Stall wlength f reply = record { answer = unchanged (Ok Stall) f; buffer = reply }
decision_served (Decision.Send d) wlength f reply =
    record { answer = unchanged (Ok (counted (count (data_bytes d) wlength))) f; buffer = written (data_bytes d) wlength reply }
decision_served (Decision.Accept next e) wlength f reply =
    record { answer = record { reply = Ok Ack; firmware = next; endpoints = e }; buffer = reply }

unfoldable pub served_of : Request → Firmware → List ℕ → Handled
served_of q f reply = decision_served (decision_of q f) q.wlength f reply

-- ---- what a call is answered

-- 1 the record isn't sound; 4 the reply buffer is under 64 bytes; 8 the setup bytes aren't eight, with the length found (Ask 1)
abbrev pub request_grounds : List ℕ → Firmware → ℕ → List (Bool × Refusal)
request_grounds setup f room =
    (not (sound_firmware f), Unsound)
    ∷ (ltb room 64, ShortBuffer)
    ∷ (not (eqb (length setup) 8), SetupPayload (length setup))
    ∷ []

abbrev pub request_checked : List ℕ → Firmware → ℕ → Checked
request_checked setup f room = check (request_grounds setup f room)

-- refused: record and reply buffer come back unchanged
abbrev pub refused_with : Refusal → Firmware → List ℕ → Handled
refused_with r f reply = record { answer = unchanged (Err r) f; buffer = reply }

abbrev pub checked_handled : List ℕ → Firmware → List ℕ → Checked → Handled
checked_handled setup f reply (Ok tt) = served_of (request_of setup) f reply
checked_handled setup f reply (Err r) = refused_with r f reply

unfoldable pub handled : List ℕ → Firmware → List ℕ → Handled
handled setup f reply = checked_handled setup f reply (request_checked setup f (length reply))

-- ---- the numbers of a call

-- what kind of reply a decision gets, and how many bytes
abbrev pub decision_kind : Decision → ℕ → ℕ
decision_kind Decision.Stall wlength = 1
decision_kind (Decision.Send d) wlength = cond (eqb (count (data_bytes d) wlength) 0) 2 3
decision_kind (Decision.Accept next e) wlength = 2

abbrev pub decision_count : Decision → ℕ → ℕ
decision_count Decision.Stall wlength = 0
decision_count (Decision.Send d) wlength = count (data_bytes d) wlength
decision_count (Decision.Accept next e) wlength = 0

-- a promise's numbers: refusal with its length, kind and count of the reply
pub record Numbers (setup : List ℕ) (f : Firmware) (buffer : List ℕ) (r : Result RequestReply Refusal) : Type 0 where
  pub refusal : tells r ≡ request_checked setup f (length buffer)
  pub kind : request_kind r
      ≡ unless_refused (request_checked setup f (length buffer)) (decision_kind (decision_of (request_of setup) f) (request_of setup).wlength)
  pub count : request_count r
      ≡ unless_refused (request_checked setup f (length buffer)) (decision_count (decision_of (request_of setup) f) (request_of setup).wlength)
