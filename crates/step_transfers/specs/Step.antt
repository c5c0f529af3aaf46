-- The board step (document 01, "The firmware"): the transfers that it sends, from the two records, and what the firmware replies.
use Rattle.refusal.specs.declared.Refusal.{Refusal}
use Rattle.std.specs.Prelude.{Bool, cond, List, [], ◌∷◌, ◌++◌, ℕ, ◌+◌, length, take, drop, replicate, Result, Ok, Err}
use Rattle.std.specs.Int.Bits.{bit_and, bit_or}
use Rattle.bits.specs.Bit.{has}
use Rattle.chip.specs.declared.Chip.{Chip}
use Rattle.chip.specs.Mask.{stlep3in, stlep2in, stlep1out, stlstat, stlep0out, stlep0in, sudavirq}
use Rattle.request.specs.declared.Firmware.{Firmware}
use Rattle.request.specs.declared.Endpoints.{Endpoints}
use Rattle.request.specs.declared.Endpoints.TheVariants.{Unchanged, ClearHalt, SetHalt, Configure}
use Rattle.firmware.specs.declared.RequestReply.{RequestReply}
use Rattle.firmware.specs.declared.RequestReply.TheVariants.{Stall, Ack, Data}
use Rattle.firmware.specs.Answer.{Handled, handled}
use Rattle.firmware.specs.Registers.{epstalls_of, clrtogs_of}
use Rattle.model.specs.Call.{Call, transfer, answer_of, call_to, buffer_after}
use Rattle.rules.specs.Event.{max3420e}

-- a transfer, lent as many bytes as it has
abbrev pub sends : List ℕ → Call
sends bytes = transfer bytes (length bytes)

-- ---- the eight bytes

-- `5A 20` clears SUDAVIRQ
abbrev pub clears_sudav : Call
clears_sudav = sends (0x5a ∷ 0x20 ∷ [])

-- eight bytes by R4
abbrev pub reads_setup : Call
reads_setup = sends (0x20 ∷ replicate 8 0)

-- the reply to that transfer, and what R4 read: the rest of SUDFIFO, then zeros (decision 34)
unfoldable pub setup_answer : Chip → List ℕ
setup_answer c = buffer_after (answer_of max3420e (call_to max3420e c clears_sudav) reads_setup) (replicate 9 0)

abbrev pub setup_read : Chip → List ℕ
setup_read c = drop 1 (setup_answer c)

-- ---- what the firmware makes of them; its reply does not depend on the bytes of the lent buffer (`handled_lent`)

abbrev pub served : Chip → Firmware → Handled
served c f = handled (setup_read c) f (replicate 64 0)

-- ---- the transfers that serve the reply, where R9 and R10 hold these bytes

-- STALL: R9 gets 23 with bits 4..2 kept (decision 35)
abbrev pub stall_byte : ℕ → ℕ
stall_byte r9 = bit_or (bit_and r9 (stlep3in + stlep2in + stlep1out)) (stlstat + stlep0out + stlep0in)

-- R9 and R10 for halts and toggles, other bits kept
abbrev pub writes_both : Endpoints → ℕ → ℕ → List Call
writes_both e r9 r10 = sends (0x4a ∷ epstalls_of e r9 ∷ []) ∷ sends (0x52 ∷ clrtogs_of e r10 ∷ []) ∷ []

abbrev pub writes_endpoints : Endpoints → ℕ → ℕ → List Call
writes_endpoints Unchanged r9 r10 = []
writes_endpoints ClearHalt r9 r10 = writes_both ClearHalt r9 r10
writes_endpoints SetHalt r9 r10 = writes_both SetHalt r9 r10
writes_endpoints Configure r9 r10 = writes_both Configure r9 r10

-- STALL; ACK only: first R9 and R10, then `91`; data: bytes to R0, then `2B n`
abbrev pub serves : Result RequestReply Refusal → Endpoints → List ℕ → ℕ → ℕ → List Call
serves (Err r) e vs r9 r10 = []
serves (Ok Stall) e vs r9 r10 = sends (0x4a ∷ stall_byte r9 ∷ []) ∷ []
serves (Ok Ack) e vs r9 r10 = writes_endpoints e r9 r10 ++ (sends (0x91 ∷ []) ∷ [])
serves (Ok (Data n)) e vs r9 r10 = sends (0x02 ∷ take n vs) ∷ sends (0x2b ∷ n ∷ []) ∷ []

-- ---- the step: nothing if SUDAVIRQ=0

abbrev pub sudav : Chip → Bool
sudav c = has c.registers.epirq sudavirq

abbrev pub serves_all : Chip → Handled → List Call
serves_all c h = serves h.answer.reply h.answer.endpoints h.buffer c.registers.epstalls c.registers.clrtogs

abbrev pub setup_calls : Chip → Firmware → List Call
setup_calls c f = clears_sudav ∷ reads_setup ∷ serves_all c (served c f)

unfoldable pub step_calls : Chip → Firmware → List Call
step_calls c f = cond (sudav c) (setup_calls c f) []
