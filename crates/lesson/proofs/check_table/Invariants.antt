-- The rows that are left read as the whole table does.
use Rattle.lesson.proofs.Turn.{Walked}
use Rattle.lesson.proofs.check_table.Given as goal

abbrev pub invariant-loop-i : goal.invariant-loop-i
invariant-loop-i l = Walked l.file l.n l.i l.offset
