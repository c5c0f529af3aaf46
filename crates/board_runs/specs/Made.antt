-- A list of calls as a program makes them: `spi::transfer` and `bus::event`, each given the record that the one before returned. What
-- each hands back is the answer that its promise names.
use Rattle.std.specs.Prelude.{List, [], ◌∷◌}
use Rattle.chip.specs.declared.Chip.{Chip}
use Rattle.model.specs.Call.{Call, transfer, event, answer_of, Entry}
use Rattle.rules.specs.Event.{max3420e}
use Rattle.spi.specs.Transfer.{transfer_answer}
use Rattle.bus.specs.EventCall.{event_answer}

-- the record that the call returns
abbrev pub made_to : Chip → Call → Chip
made_to c (transfer bytes room) = (transfer_answer c (transfer bytes room)).state
made_to c (event e payload room) = (event_answer c e payload room).state

unfoldable pub made_run_to : Chip → List Call → Chip
made_run_to c [] = c
made_run_to c (k ∷ ks) = made_run_to (made_to c k) ks

-- each call with its answer, of which the promises give the reply's number and count and every byte of the lent buffer
unfoldable pub made_history : Chip → List Call → List Entry
made_history c [] = []
made_history c (k ∷ ks) = record { call = k; answer = answer_of max3420e c k } ∷ made_history (made_to c k) ks
