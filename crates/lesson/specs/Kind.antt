-- The kinds of entry, an entry as code reads it, and what a reading of a file hands out.
use Rattle.std.specs.Prelude.{◌≡◌, ℕ, true, false, List, Result, Ok, Err, MatchResult}
use Rattle.refusal.specs.declared.Refusal.{Refusal}
use Rattle.refusal.specs.declared.Refusal.TheVariants.{NoLesson}
use Rattle.lesson.specs.Lesson.{LessonEntry, is_kind}
use Rattle.lesson.specs.Read.{Reading, no_lesson, lesson}
use Rattle.lesson.specs.declared.EntryKind.{EntryKind}
use Rattle.lesson.specs.declared.EntryKind.TheVariants.{Transfer, Event}
use Rattle.lesson.specs.declared.UnknownKind.{UnknownKind}
use Rattle.lesson.specs.declared.Entry.{Entry}

abbrev pub kind_number : EntryKind → ℕ
kind_number Transfer = 1
kind_number Event = 2

-- the kind of a number, or that it is none
abbrev pub Names : ℕ → Result EntryKind UnknownKind → Type 0
Names n r = MatchResult r (λ kind. (kind_number kind ≡ n) × (is_kind n ≡ true)) (λ e. (e.0 ≡ n) × (is_kind n ≡ false))

abbrev pub entry_told : Entry → LessonEntry
entry_told e = record { kind = kind_number e.kind; tick = e.tick; body = e.body.now }

-- the lesson, or the refusal that names an entry
abbrev pub lesson_read : Reading → Result (List LessonEntry) Refusal
lesson_read (no_lesson i) = Err (NoLesson i)
lesson_read (lesson l) = Ok l
