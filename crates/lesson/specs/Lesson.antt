-- A lesson, and its file (document 02, Ask 5).
use Rattle.std.specs.Prelude.{◌≡◌, ℕ, ◌+◌, ◌*◌, ◌^◌, ◌<◌, ◌≤◌, Bool, true, ◌||◌, List, [], ◌∷◌, ◌++◌, length, ◌==◌}
use Rattle.little_endian.specs.Number.{little_endian, Bytes}

pub record LessonEntry : Type 0 where
  pub kind : ℕ
  pub tick : ℕ
  pub body : List ℕ

-- 1 a transfer, 2 an event
abbrev pub is_kind : ℕ → Bool
is_kind k = k == 1 || k == 2

-- ---- the file: a version byte 1, a byte n, n entries of 11 bytes, then the bodies with no gaps, in entry order

-- a kind, a 32-bit tick, a 32-bit offset from the file's start and a 16-bit length, low byte first
abbrev pub row : ℕ → ℕ → ℕ → ℕ → List ℕ
row kind tick offset size = kind ∷ little_endian 4 tick ++ little_endian 4 offset ++ little_endian 2 size

-- the table of the entries, the first body at the given offset
unfoldable pub table : ℕ → List LessonEntry → List ℕ
table offset [] = []
table offset (e ∷ es) = row e.kind e.tick offset (length e.body) ++ table (offset + length e.body) es

unfoldable pub bodies : List LessonEntry → List ℕ
bodies [] = []
bodies (e ∷ es) = e.body ++ bodies es

-- where the table of n entries ends and the bodies start
abbrev pub table_end : ℕ → ℕ
table_end n = 2 + 11 * n

unfoldable pub file_of : List LessonEntry → List ℕ
file_of l = 1 ∷ length l ∷ table (table_end (length l)) l ++ bodies l

-- ---- what is a lesson, and which lessons have a file

pub record IsEntry (e : LessonEntry) : Type 0 where
  pub kind : is_kind e.kind ≡ true
  pub tick : e.tick < 2 ^ 32
  pub body : Bytes e.body

unfoldable pub IsLesson : List LessonEntry → Type 0
IsLesson [] = Unit
IsLesson (e ∷ es) = IsEntry e × IsLesson es

-- at most 255 entries and 64 KiB
pub record HasFile (l : List LessonEntry) : Type 0 where
  pub each : IsLesson l
  pub count : length l ≤ 255
  pub size : length (file_of l) ≤ 65536
