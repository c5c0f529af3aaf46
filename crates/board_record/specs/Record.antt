-- The board's records at power-on, when they are sound, and which events put the firmware's back.
use Rattle.refusal.specs.declared.Refusal.{Refusal}
use Rattle.std.specs.Prelude.{Bool, true, false, cond, ◌&&◌, ◌||◌, eqb, Result, Ok, Err}
use Rattle.chip.specs.Record.{power_on_chip}
use Rattle.chip.specs.Sound.{sound_chip}
use Rattle.request.specs.declared.Firmware.{Firmware}
use Rattle.request.specs.Record.{power_on_firmware, sound_firmware}
use Rattle.model.specs.declared.Event.{Event}
use Rattle.event_answer.specs.declared.EventReply.{EventReply}
use Rattle.event_answer.specs.declared.EventReply.TheVariants as reply
use Rattle.board_record.specs.declared.Board.{Board}

abbrev pub power_on_board : Board
power_on_board = record { chip = power_on_chip; firmware = power_on_firmware }

abbrev pub sound_board : Board → Bool
sound_board b = sound_chip b.chip && sound_firmware b.firmware

-- power-on and a bus reset start that is seen put the firmware's record back: both are answered done
abbrev pub is_done : Result EventReply Refusal → Bool
is_done (Err r) = false
is_done (Ok reply.Done) = true
is_done (Ok reply.Silence) = false
is_done (Ok reply.Ack) = false
is_done (Ok reply.Nak) = false
is_done (Ok reply.Stall) = false
is_done (Ok (reply.Data0 n)) = false
is_done (Ok (reply.Data1 n)) = false

abbrev pub starts_anew : Event → Bool
starts_anew e = eqb e.code 1 || eqb e.code 6

abbrev pub firmware_for : Firmware → Event → Result EventReply Refusal → Firmware
firmware_for f e a = cond (starts_anew e && is_done a) power_on_firmware f
