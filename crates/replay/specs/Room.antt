-- A lesson's file, and room that is always enough for it. Of a lesson the code has it by `most_file` (proofs/Most.antt).
use Rattle.std.specs.Prelude.{◌≡◌, List, ℕ, ◌+◌, ◌*◌, ◌≤◌, length, Ok}
use Rattle.lesson.specs.Read.{lesson_of, entries_of, reading_checked}

-- a lesson's file, and how many entries it has
pub record Counted (file : List ℕ) (n : ℕ) : Type 0 where
  pub accepted : reading_checked (lesson_of file) ≡ (Ok tt)
  pub count : n ≡ length (entries_of (lesson_of file))
  pub few : n ≤ 255

-- enough for every lesson of n entries in a file of so many bytes (`played_most`): for each entry four bytes and a packet, and the bodies
abbrev pub enough_room : ℕ → ℕ → ℕ
enough_room n size = 68 * n + size
