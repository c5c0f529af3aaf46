-- The class is answered as it says, by computation.
use mathlib.Core.Path.{◌≡◌, refl}
use Rattle.chip.specs.Pin.{pin_of}
use Rattle.chip.specs.Record.{power_on_chip}
use Rattle.chip.specs.Same.{same_chip}
use Rattle.chip.specs.Sound.{sound_chip}
use Rattle.model.specs.Spi.{burst_to, burst_of}
use Rattle.model.specs.Call.{answer_of, call_to, run_to}
use Rattle.step_transfers.specs.Step.{step_calls}
use Rattle.board.specs.Board.{board_to}
use Rattle.classroom_record.specs.Record.{all_closed, sound_desk}
use Rattle.classroom.specs.Calls.{open_answer, close_answer, desk_transfer, transfer_lent, desk_event, desk_step}
use Rattle.classroom.specs.Examples.{taught, class}

pub class_holds : taught all_closed class ≡ class
unfolding power_on_chip same_chip sound_chip pin_of burst_to burst_of answer_of call_to run_to step_calls board_to sound_desk open_answer close_answer desk_transfer transfer_lent desk_event desk_step
class_holds = refl
