-- Files in hex, and what each reads as (document 02, Ask 5).
use Rattle.std.specs.Prelude.{ℕ, List, [], ◌∷◌, ◌++◌}
use Rattle.lesson.specs.Lesson.{LessonEntry}
use Rattle.lesson.specs.Read.{Reading, no_lesson, lesson}

-- a transfer of two bytes, then an event of one byte 20 ticks (hex) after it: the ticks wrap between them
abbrev pub two_entries : List LessonEntry
two_entries = record { kind = 1; tick = 0xfffffff0; body = 0x68 ∷ 0x00 ∷ [] } ∷ record { kind = 2; tick = 0x10; body = 0x01 ∷ [] } ∷ []

-- the rows of its table, with a kind and an offset for the second
abbrev pub transfer_row : List ℕ
transfer_row = 0x01 ∷ 0xf0 ∷ 0xff ∷ 0xff ∷ 0xff ∷ 0x18 ∷ 0x00 ∷ 0x00 ∷ 0x00 ∷ 0x02 ∷ 0x00 ∷ []

abbrev pub event_row : ℕ → ℕ → List ℕ
event_row kind offset = kind ∷ 0x10 ∷ 0x00 ∷ 0x00 ∷ 0x00 ∷ offset ∷ 0x00 ∷ 0x00 ∷ 0x00 ∷ 0x01 ∷ 0x00 ∷ []

abbrev pub two_bodies : List ℕ
two_bodies = 0x68 ∷ 0x00 ∷ 0x01 ∷ []

-- the file of two_entries, with a version, and a kind and an offset for the second entry
abbrev pub two_file : ℕ → ℕ → ℕ → List ℕ
two_file version kind offset = version ∷ 0x02 ∷ transfer_row ++ event_row kind offset ++ two_bodies

abbrev pub file_examples : List (List ℕ × Reading)
file_examples =
    -- a lesson of no entries, and one of two
    (0x01 ∷ 0x00 ∷ [], lesson []) ∷
    (two_file 0x01 0x02 0x1a, lesson two_entries) ∷
    -- under two bytes; a wrong version
    ([], no_lesson 0) ∷
    (0x01 ∷ [], no_lesson 0) ∷
    (two_file 0x02 0x02 0x1a, no_lesson 0) ∷
    -- a table that is cut in its second row
    (0x01 ∷ 0x02 ∷ transfer_row ++ 0x02 ∷ 0x10 ∷ [], no_lesson 1) ∷
    -- a bad kind; a gap before the second body, and an overlap
    (two_file 0x01 0x03 0x1a, no_lesson 1) ∷
    (two_file 0x01 0x02 0x1b, no_lesson 1) ∷
    (two_file 0x01 0x02 0x19, no_lesson 1) ∷
    -- bytes after the last body, or too few for it: only the file's end is wrong
    (two_file 0x01 0x02 0x1a ++ 0x00 ∷ [], no_lesson 2) ∷
    (0x01 ∷ 0x02 ∷ transfer_row ++ event_row 0x02 0x1a ++ 0x68 ∷ 0x00 ∷ [], no_lesson 2) ∷
    (0x01 ∷ 0x00 ∷ 0x00 ∷ [], no_lesson 0) ∷
    []
