-- The public call: what a file plays as (document 02, Ask 5).
use Rattle.refusal.specs.declared.Refusal.{Refusal}
use Rattle.std.specs.Prelude.{List, [], ◌∷◌, map, ℕ, ltb, length, Result, Ok, Err}
use Rattle.refusal.specs.declared.Refusal.TheVariants.{ShortBuffer, NoLesson}
use Rattle.refusal.specs.Check.{Checked}
use Rattle.refusal.specs.Check.{check}
use Rattle.chip.specs.declared.Chip.{Chip}
use Rattle.chip.specs.Record.{power_on_chip}
use Rattle.chip.specs.Pin.{pin_of}
use Rattle.model.specs.Reply.{lent}
use Rattle.model.specs.Call.{Call, run_to, history}
use Rattle.rules.specs.Event.{max3420e}
use Rattle.lesson.specs.Lesson.{LessonEntry}
use Rattle.lesson.specs.Read.{Reading, no_lesson, lesson, lesson_of, entries_of}
use Rattle.chip.specs.declared.CallAnswer.{CallAnswer}
use Rattle.replay.specs.Results.{call_of, results}

-- ---- a lesson

-- its calls, in order
abbrev pub calls_of : List LessonEntry → List Call
calls_of l = map call_of l

-- all calls made one by one from power-on: what is written for them, and the record after the last
unfoldable pub played_bytes : List LessonEntry → List ℕ
played_bytes l = results (history max3420e power_on_chip (calls_of l))

unfoldable pub played_to : List LessonEntry → Chip
played_to l = run_to max3420e power_on_chip (calls_of l)

-- ---- a file

-- 4 where what is to be written for a lesson does not fit
abbrev pub lesson_plays : List LessonEntry → ℕ → Checked
lesson_plays l room = check ((ltb room (length (played_bytes l)), ShortBuffer) ∷ [])

-- 13 where it is no lesson, naming an entry; else 4 where what is to be written does not fit
abbrev pub reading_plays : Reading → ℕ → Checked
reading_plays (no_lesson i) room = Err (NoLesson i)
reading_plays (lesson l) room = lesson_plays l room

abbrev pub replay_checked : List ℕ → ℕ → Checked
replay_checked file room = reading_plays (lesson_of file) room

-- what a replay hands back
abbrev pub ReplayAnswer : Type 0
ReplayAnswer = CallAnswer Chip ℕ

-- the record handed back, the reply, and the pin of that record
abbrev pub replay_answer_with : Chip → Result ℕ Refusal → ReplayAnswer
replay_answer_with c r = record { state = c; reply = r; pin = pin_of c.registers }

-- refused, nothing was played: the record is that of power-on
abbrev pub replay_answer_of : Checked → List LessonEntry → ReplayAnswer
replay_answer_of (Ok tt) l = replay_answer_with (played_to l) (Ok (length (played_bytes l)))
replay_answer_of (Err r) l = replay_answer_with power_on_chip (Err r)

abbrev pub replay_buffer_of : Checked → List LessonEntry → List ℕ → List ℕ
replay_buffer_of (Ok tt) l output = lent (played_bytes l) output
replay_buffer_of (Err r) l output = output

-- the answer, and the lent buffer after it
abbrev pub replay_answer : List ℕ → ℕ → ReplayAnswer
replay_answer file room = replay_answer_of (replay_checked file room) (entries_of (lesson_of file))

abbrev pub replay_buffer : List ℕ → List ℕ → List ℕ
replay_buffer file output = replay_buffer_of (replay_checked file (length output)) (entries_of (lesson_of file)) output

-- ---- the reply in numbers

-- the bytes that are written; 0 where it is refused
abbrev pub replay_count : Result ℕ Refusal → ℕ
replay_count (Err r) = 0
replay_count (Ok n) = n
