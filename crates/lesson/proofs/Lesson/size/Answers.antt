-- The file is the one file of the lesson that it reads as (`one_file`), and no longer than it may be.
use Rattle.std.proofs.Common.{length, ap}
use Rattle.lesson.specs.Read.{lesson_of, entries_of}
use Rattle.lesson.proofs.Count.{accepted_lesson, headed_size}
use Rattle.lesson.proofs.Read.{one_file}
use Rattle.lesson.proofs.Lesson.size.Goals as goal

pub returns : goal.returns
returns c =
    let f = c.self.inside.file.now in
    let l = entries_of (lesson_of f) in
    let read = accepted_lesson f c.self.invariant.accepted in
    rw (← c.self.view_is) (ap length (one_file f l c.self.invariant.bytes read).0, (headed_size f l read).1)
