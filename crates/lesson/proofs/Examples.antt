-- The files of specs/Examples read as they should, and the lesson of two entries has the file shown; ticks that wrap.
use Rattle.std.proofs.Common.{◌≡◌, ℕ, List, map, refl}
use Rattle.lesson.specs.Lesson.{table, bodies, file_of}
use Rattle.lesson.specs.Read.{Reading, read_from, lesson_of}
use Rattle.lesson.specs.Ticks.{elapsed_ticks}
use Rattle.lesson.specs.Examples.{two_entries, two_file, file_examples}

pub examples_read : map (λ (e : List ℕ × Reading). lesson_of e.0) file_examples ≡ map (λ (e : List ℕ × Reading). e.1) file_examples
unfolding lesson_of read_from
examples_read = refl

pub example_written : file_of two_entries ≡ two_file 0x01 0x02 0x1a
unfolding file_of table bodies
example_written = refl

pub example_elapsed : elapsed_ticks 0xfffffff0 0x10 ≡ 0x20
example_elapsed = refl

pub example_unwrapped : elapsed_ticks 0x10 0x30 ≡ 0x20
example_unwrapped = refl
