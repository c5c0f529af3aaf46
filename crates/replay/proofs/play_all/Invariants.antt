-- Between two entries what is still to be played and to be written makes the whole, and the scratch buffer keeps its size.
use Rattle.std.proofs.Common.{◌≡◌, length, drop}
use Rattle.replay.proofs.Turn.{Turn}
use Rattle.replay.proofs.play_all.Given as goal

abbrev pub invariant-loop-entry : goal.invariant-loop-entry
invariant-loop-entry l =
    Turn l.lesson (drop l.entry-iterator.next l.entry-iterator.lesson.now) l.run.chip l.run.size l.output l.fn.output × (length l.reply ≡ 4096)
