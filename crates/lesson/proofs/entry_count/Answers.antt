-- A file that reads as a lesson has two bytes at least, and the second says how many entries.
use Rattle.std.proofs.Common.{sym, arith}
use Rattle.lesson.specs.Read.{lesson_of, entries_of}
use Rattle.lesson.proofs.Count.{entry_count, headed_size, accepted_lesson}
use Rattle.lesson.proofs.entry_count.Goals as goal

pub bounds-file-1 : goal.bounds-file-1
bounds-file-1 c =
    let f = c.args.file.now in
    omega (arith, (headed_size f (entries_of (lesson_of f)) (accepted_lesson f c.requires)).0)

pub returns : goal.returns
returns c =
    let f = c.args.file.now in
    (sym (entry_count f (entries_of (lesson_of f)) (accepted_lesson f c.requires)), omega (arith, c.type_inv.file 1))
