-- A lesson as it is lent to the writer: the entries' kinds ks, their ticks ts, the lengths ns of their bodies, and the bodies bs one after
-- the other; what the writer replies, and what it leaves in the lent buffer (document 02, Ask 5).
use Rattle.std.specs.List.{list_all}
use Rattle.std.specs.Prelude.{Bool, not, ◌&&◌, List, [], ◌∷◌, ◌++◌, ℕ, ◌+◌, eqb, leb, ltb, length, take, drop, Result, Ok, Err}
use Rattle.refusal.specs.declared.Refusal.{Refusal}
use Rattle.refusal.specs.declared.Refusal.TheVariants.{ShortBuffer, NoLesson}
use Rattle.refusal.specs.Check.{Checked}
use Rattle.refusal.specs.Check.{check}
use Rattle.model.specs.Reply.{lent}
use Rattle.lesson.specs.Lesson.{LessonEntry, is_kind, row, table_end, file_of}

-- the lesson that the parts are
unfoldable pub lesson_from : List ℕ → List ℕ → List ℕ → List ℕ → List LessonEntry
lesson_from [] ts ns bs = []
lesson_from (k ∷ ks) [] ns bs = []
lesson_from (k ∷ ks) (t ∷ ts) [] bs = []
lesson_from (k ∷ ks) (t ∷ ts) (n ∷ ns) bs = record { kind = k; tick = t; body = take n bs } ∷ lesson_from ks ts ns (drop n bs)

-- its table, from the parts; the first body is at the given offset
unfoldable pub rows : ℕ → List ℕ → List ℕ → List ℕ → List ℕ
rows offset [] ts ns = []
rows offset (k ∷ ks) [] ns = []
rows offset (k ∷ ks) (t ∷ ts) [] = []
rows offset (k ∷ ks) (t ∷ ts) (n ∷ ns) = row k t offset n ++ rows (offset + n) ks ts ns

unfoldable pub total : List ℕ → ℕ
total [] = 0
total (n ∷ ns) = n + total ns

abbrev pub all_kinds : List ℕ → Bool
all_kinds ks = list_all is_kind ks

-- ---- the writer

-- the bytes of the file
abbrev pub size_of : List ℕ → List ℕ → ℕ
size_of ks bs = table_end (length ks) + length bs

-- there is a tick and a length for each kind, the lengths are those of the bodies, and every kind is one
abbrev pub is_lesson : List ℕ → List ℕ → List ℕ → List ℕ → Bool
is_lesson ks ts ns bs = eqb (length ts) (length ks) && eqb (length ns) (length ks) && eqb (total ns) (length bs) && all_kinds ks

-- at most 255 entries and 64 KiB
unfoldable pub has_file : List ℕ → List ℕ → List ℕ → List ℕ → Bool
has_file ks ts ns bs = leb (length ks) 255 && leb (size_of ks bs) 65536 && is_lesson ks ts ns bs

-- 13, naming 0, for what is no lesson or one of over 255 entries or 64 KiB, else 4 for a lent buffer too short
abbrev pub writer_grounds : List ℕ → List ℕ → List ℕ → List ℕ → ℕ → List (Bool × Refusal)
writer_grounds ks ts ns bs room = (not (has_file ks ts ns bs), NoLesson 0) ∷ (ltb room (size_of ks bs), ShortBuffer) ∷ []

abbrev pub writer_checked : List ℕ → List ℕ → List ℕ → List ℕ → ℕ → Checked
writer_checked ks ts ns bs room = check (writer_grounds ks ts ns bs room)

abbrev pub writer_reply_of : Checked → ℕ → Result ℕ Refusal
writer_reply_of (Ok tt) n = Ok n
writer_reply_of (Err r) n = Err r

abbrev pub writer_buffer_of : Checked → List ℕ → List ℕ → List ℕ
writer_buffer_of (Ok tt) file buffer = lent file buffer
writer_buffer_of (Err r) file buffer = buffer

-- the refusal, or how many bytes the file has
abbrev pub writer_reply : List ℕ → List ℕ → List ℕ → List ℕ → ℕ → Result ℕ Refusal
writer_reply ks ts ns bs room = writer_reply_of (writer_checked ks ts ns bs room) (size_of ks bs)

-- the lent buffer after it: refused, as given; else the file, and the rest as given
abbrev pub writer_buffer : List ℕ → List ℕ → List ℕ → List ℕ → List ℕ → List ℕ
writer_buffer ks ts ns bs buffer = writer_buffer_of (writer_checked ks ts ns bs (length buffer)) (file_of (lesson_from ks ts ns bs)) buffer

-- ---- the parts of a lesson

abbrev pub kinds_of : List LessonEntry → List ℕ
kinds_of [] = []
kinds_of (e ∷ es) = e.kind ∷ kinds_of es

abbrev pub ticks_of : List LessonEntry → List ℕ
ticks_of [] = []
ticks_of (e ∷ es) = e.tick ∷ ticks_of es

abbrev pub lengths_of : List LessonEntry → List ℕ
lengths_of [] = []
lengths_of (e ∷ es) = length e.body ∷ lengths_of es

-- ---- the reply in numbers

-- the bytes of the file; 0 where it is refused
abbrev pub writer_count : Result ℕ Refusal → ℕ
writer_count (Err r) = 0
writer_count (Ok n) = n
