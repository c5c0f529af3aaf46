-- Invariant: the offset so far is that of row i.
use Rattle.std.proofs.Common.{◌≡◌, ◌+◌, ◌*◌, ◌≤◌}
use Rattle.lesson.specs.Read.{offset_at}
use Rattle.lesson_faults.proofs.body_place.Given as goal

abbrev pub invariant-loop-i : goal.invariant-loop-i
invariant-loop-i l = (l.offset ≤ 2807 + 65535 * l.i) × (l.offset ≡ offset_at l.file l.i)
