-- What `flat_desk_answer` gives is each call's own answer, by the definitions of refusal and length of that call.
use mathlib.Core.Path.{◌≡◌, refl}
use Rattle.spi.specs.Transfer.{transfer_count}
use Rattle.bus.specs.EventCall.{event_pid, event_count}
use Rattle.classroom.specs.Calls.{DeskTransfer, DeskEvent}
use Rattle.flat_classroom.specs.Answer.{flat_desk_answer_of, flat_desk_transfer, flat_desk_event}

pub flat_desk_transfer_law : (a : DeskTransfer) → flat_desk_answer_of (λ s. 0) transfer_count a ≡ flat_desk_transfer a
unfolding flat_desk_answer_of flat_desk_transfer
flat_desk_transfer_law a = refl

pub flat_desk_event_law : (a : DeskEvent) → flat_desk_answer_of event_pid event_count a ≡ flat_desk_event a
unfolding flat_desk_answer_of flat_desk_event
flat_desk_event_law a = refl
