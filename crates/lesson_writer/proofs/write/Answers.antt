-- What the test of the parts tells bounds the size; the two grounds are the code's tests; the file put at the start is lent.
use Rattle.std.proofs.Common.{◌≡◌, ◌≤◌, true, length, sym, ◌∙◌, arith}
use borrow.Author.Tests.{le-ltb}
use Rattle.little_endian.proofs.Put.{put_first}
use Rattle.lesson.specs.Lesson.{file_of}
use Rattle.lesson_writer.specs.Parts.{has_file, size_of, lesson_from}
use Rattle.lesson_writer.proofs.File.{told, size_is}
use Rattle.lesson_writer.proofs.write.Goals as goal

pub overflow_mul-size : goal.overflow_mul-size
overflow_mul-size c =
    omega (arith, (told c.args.kinds.now c.args.ticks.now c.args.lengths.now c.args.bodies.now (sym c.if-not-has_file.ensures)).count)

pub overflow_add-size : goal.overflow_add-size
overflow_add-size c =
    omega (arith, (told c.args.kinds.now c.args.ticks.now c.args.lengths.now c.args.bodies.now (sym c.if-not-has_file.ensures)).count)

pub overflow_add-size-2 : goal.overflow_add-size-2
overflow_add-size-2 c =
    omega (arith, (told c.args.kinds.now c.args.ticks.now c.args.lengths.now c.args.bodies.now (sym c.if-not-has_file.ensures)).size)

pub put_file-requires : goal.put_file-requires
put_file-requires c =
    let p = told c.args.kinds.now c.args.ticks.now c.args.lengths.now c.args.bodies.now (sym c.if-not-has_file.ensures) in
    record { together = p.together; count = p.count; size = p.size; room = c.if-file-size.false }

pub returns : goal.returns
returns c =
    let d = c.args.file.now in
    let ks = c.args.kinds.now in
    let ts = c.args.ticks.now in
    let ns = c.args.lengths.now in
    let bs = c.args.bodies.now in
    let e : has_file ks ts ns bs ≡ true = sym c.if-not-has_file.ensures in
    let room : size_of ks bs ≤ length d = c.if-file-size.false in
    let size : length (file_of (lesson_from ks ts ns bs)) ≡ size_of ks bs = size_is ks ts ns bs (told ks ts ns bs e).together in
    let fits = le-ltb (length d) (size_of ks bs) room in (
      rw (e, fits),
      rw (e, fits)
          (c.put_file.ensures ∙ put_first (file_of (lesson_from ks ts ns bs)) d (omega arith)),
    )
