-- The answers to the calls on lessons as C programs get them: the record as it is, the reply and the pin as numbers.
use Rattle.refusal.specs.declared.Refusal.{Refusal}
use Rattle.std.specs.Prelude.{ℕ, length, Result}
use Rattle.refusal.specs.Check.{Checked, tells}
use Rattle.refusal.specs.Check.{checked_number, checked_found, unless_refused}
use Rattle.chip.specs.Pin.{pin_number}
use Rattle.lesson.specs.Read.{Reading, reading_checked, entries_of}
use Rattle.lesson_writer.specs.Parts.{writer_count}
use Rattle.replay.specs.Replay.{ReplayAnswer, replay_count}
use Rattle.capi_lesson.specs.declared.FlatLessonAnswer.{FlatLessonAnswer}
use Rattle.capi_lesson.specs.declared.FlatReplayAnswer.{FlatReplayAnswer}

-- the number of refusal, the entry that it names, and a count where it is accepted
abbrev pub lesson_answer : Checked → ℕ → FlatLessonAnswer
lesson_answer v n = record { refusal = checked_number v; found = checked_found v; count = unless_refused v n }

-- the count is that of the entries
abbrev pub flat_check : Reading → FlatLessonAnswer
flat_check x = lesson_answer (reading_checked x) (length (entries_of x))

-- that of the file's bytes
abbrev pub flat_writer : Result ℕ Refusal → FlatLessonAnswer
flat_writer r = lesson_answer (tells r) (writer_count r)

-- that of the bytes written
abbrev pub flat_replay : ReplayAnswer → FlatReplayAnswer
flat_replay a =
    record {
      chip = a.state;
      refusal = checked_number (tells a.reply);
      pin = pin_number a.pin;
      found = checked_found (tells a.reply);
      count = replay_count a.reply;
    }
