-- Every bench case and every worked example holds of the rules, and every one of the watch, by computation.
use mathlib.Core.Path.{◌≡◌, refl}
use mathlib.Core.Bool.{false}
use mathlib.Core.List.{map, ◌++◌}
use Rattle.chip.specs.Record.{power_on_chip}
use Rattle.chip.specs.Sound.{sound_chip}
use Rattle.chip.specs.Pin.{pin_reply, pin_of}
use Rattle.chip.specs.Same.{same_chip}
use Rattle.request.specs.Request.{decision_of}
use Rattle.firmware.specs.Answer.{handled, served_of}
use Rattle.model.specs.Spi.{burst_to, burst_of}
use Rattle.model.specs.Call.{answer_of, call_to}
use Rattle.model.specs.Book.{note_burst, note, book_of}
use Rattle.rules.specs.Bench.{played, cases, on, packets_of}
use Rattle.rules.specs.Examples.{examples, Watched, watched, watches}

pub bench : map played cases ≡ cases
unfolding power_on_chip sound_chip pin_reply pin_of same_chip burst_to burst_of answer_of call_to handled served_of decision_of
bench = refl

pub examples_hold : map played examples ≡ examples
unfolding power_on_chip sound_chip pin_reply pin_of same_chip burst_to burst_of answer_of call_to handled served_of decision_of
examples_hold = refl

-- the watch after each list of calls, which is answered so
pub watches_hold : (map watched watches ≡ watches) × (map (λ (x : Watched). played x.steps) watches ≡ map (λ (x : Watched). x.steps) watches)
unfolding power_on_chip sound_chip pin_reply pin_of same_chip burst_to burst_of answer_of call_to handled served_of decision_of note_burst note book_of
watches_hold = (refl, refl)

-- a run of 303 calls
pub long_run : played (on ++ packets_of false 100) ≡ on ++ packets_of false 100
unfolding power_on_chip sound_chip pin_reply pin_of same_chip burst_to burst_of answer_of call_to handled served_of decision_of
long_run = refl
