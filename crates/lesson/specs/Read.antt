-- What a file reads as: a lesson, or refusal 13 with the entry that it names (document 02, Ask 5).
use Rattle.std.specs.Prelude.{◌≡◌, ℕ, zero, suc, ◌+◌, ◌*◌, ◌≤◌, Bool, cond, ◌&&◌, List, [], ◌∷◌, length, take, drop, ◌==◌, nat_le, nat_lt, slice_index, Ok, Err}
use Rattle.refusal.specs.declared.Refusal.TheVariants.{NoLesson}
use Rattle.refusal.specs.Check.{Checked}
use Rattle.little_endian.specs.Number.{from_little_endian, Bytes}
use Rattle.lesson.specs.Lesson.{LessonEntry, is_kind, table_end}

pub data Reading : Type 0 where
  no_lesson : ℕ → Reading
  lesson : List LessonEntry → Reading

abbrev pub with_entry : LessonEntry → Reading → Reading
with_entry e (no_lesson i) = no_lesson i
with_entry e (lesson es) = lesson (e ∷ es)

-- ---- the fields of the row that a list starts with

abbrev pub row_kind : List ℕ → ℕ
row_kind xs = slice_index xs 0

abbrev pub row_tick : List ℕ → ℕ
row_tick xs = from_little_endian 4 (drop 1 xs)

abbrev pub row_offset : List ℕ → ℕ
row_offset xs = from_little_endian 4 (drop 5 xs)

abbrev pub row_length : List ℕ → ℕ
row_length xs = from_little_endian 2 (drop 9 xs)

-- neither a bad kind nor a bad offset
abbrev pub row_fits : ℕ → List ℕ → Bool
row_fits offset xs = is_kind (row_kind xs) && row_offset xs == offset

-- the entry of that row, its body at the given offset of the file
abbrev pub entry_of : ℕ → List ℕ → List ℕ → LessonEntry
entry_of offset file xs = record { kind = row_kind xs; tick = row_tick xs; body = take (row_length xs) (drop offset file) }

-- ---- the file

-- k rows are left, xs is the file from there on; row i is the next, and its body must be at the given offset. The first entry is named
-- that is missing or has a bad kind or offset, or n if only the file's end isn't where the last body ends.
unfoldable pub read_from : ℕ → ℕ → ℕ → List ℕ → List ℕ → Reading
read_from zero i offset file xs = cond (offset == length file) (lesson []) (no_lesson i)
read_from (suc k) i offset file xs =
    cond (nat_lt (length xs) 11) (no_lesson i)
    (cond (row_fits offset xs)
    (with_entry (entry_of offset file xs) (read_from k (suc i) (offset + row_length xs) file (drop 11 xs)))
    (no_lesson i))

-- a wrong version, a file under two bytes or over 64 KiB names 0 and is looked at first
abbrev pub is_headed : List ℕ → Bool
is_headed file = nat_le 2 (length file) && nat_le (length file) 65536 && slice_index file 0 == 1

unfoldable pub lesson_of : List ℕ → Reading
lesson_of file =
    cond (is_headed file) (read_from (slice_index file 1) 0 (table_end (slice_index file 1)) file (drop 2 file)) (no_lesson 0)

abbrev pub reading_checked : Reading → Checked
reading_checked (no_lesson i) = Err (NoLesson i)
reading_checked (lesson l) = Ok tt

-- no entry where there is no lesson
abbrev pub entries_of : Reading → List LessonEntry
entries_of (no_lesson i) = []
entries_of (lesson l) = l

-- ---- the same by the row's number

abbrev pub row_at : List ℕ → ℕ → List ℕ
row_at file j = drop (2 + 11 * j) file

-- where the body of entry j must be: after the table and the bodies before it
unfoldable pub offset_at : List ℕ → ℕ → ℕ
offset_at file zero = table_end (slice_index file 1)
offset_at file (suc j) = offset_at file j + row_length (row_at file j)

-- entry j is there, and has neither a bad kind nor a bad offset
abbrev pub is_entry_at : List ℕ → ℕ → Bool
is_entry_at file j = nat_le (2 + 11 * (j + 1)) (length file) && row_fits (offset_at file j) (row_at file j)

-- the entry that row j says
abbrev pub entry_at : List ℕ → ℕ → LessonEntry
entry_at file j = entry_of (row_offset (row_at file j)) file (row_at file j)

-- row j is there, and so is its body
pub record Located (file : List ℕ) (j : ℕ) : Type 0 where
  pub there : 2 + 11 * (j + 1) ≤ length file
  pub inside : row_offset (row_at file j) + row_length (row_at file j) ≤ length file

-- the bytes of a lesson's file
pub record OfLesson (file : List ℕ) : Type 0 where
  pub accepted : reading_checked (lesson_of file) ≡ Ok tt
  pub bytes : Bytes file
