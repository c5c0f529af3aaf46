-- Every enumeration is answered as it says, by computation.
use mathlib.Core.Path.{◌≡◌, refl}
use mathlib.Core.List.{map}
use Rattle.chip.specs.Record.{power_on_chip}
use Rattle.chip.specs.Sound.{sound_chip}
use Rattle.request.specs.Request.{decision_of}
use Rattle.firmware.specs.Answer.{handled, served_of}
use Rattle.model.specs.Spi.{burst_to, burst_of}
use Rattle.model.specs.Call.{answer_of, call_to, run_to}
use Rattle.step_transfers.specs.Step.{setup_answer, step_calls}
use Rattle.board.specs.Board.{board_to}
use Rattle.board_runs.specs.Enumeration.{played, enumerations}

pub enumerations_hold : map played enumerations ≡ enumerations
unfolding power_on_chip sound_chip burst_to burst_of answer_of call_to run_to handled served_of decision_of setup_answer step_calls board_to
enumerations_hold = refl
