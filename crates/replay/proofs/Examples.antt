-- The lesson of specs/Examples plays as worked out.
use mathlib.Core.Path.{◌≡◌, refl}
use mathlib.Core.List.{List, map}
use Prim.Native.Nat.{ℕ}
use Rattle.chip.specs.Record.{power_on_chip}
use Rattle.chip.specs.Sound.{sound_chip}
use Rattle.model.specs.Spi.{burst_to, burst_of}
use Rattle.model.specs.Call.{answer_of, call_to, history}
use Rattle.lesson.specs.Lesson.{LessonEntry}
use Rattle.event_body.specs.Body.{event_of}
use Rattle.replay.specs.Results.{results}
use Rattle.replay.specs.Replay.{played_bytes}
use Rattle.replay.specs.Examples.{played_example, in_row}

pub example_played : played_bytes (map (λ (e : LessonEntry × List ℕ). e.0) played_example) ≡ in_row played_example
unfolding played_bytes results history answer_of call_to sound_chip power_on_chip event_of burst_of burst_to
example_played = refl
