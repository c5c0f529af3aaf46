-- With the rows that are left, the buffer is as with the whole table.
use Rattle.lesson_writer.proofs.Rows.{Rows}
use Rattle.lesson_writer.proofs.put_table.Given as goal

abbrev pub invariant-loop-i : goal.invariant-loop-i
invariant-loop-i l = Rows l.kinds l.ticks l.lengths l.start l.initial.file l.file l.i l.offset
