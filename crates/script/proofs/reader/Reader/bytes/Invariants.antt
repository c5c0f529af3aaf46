-- Each byte took a place of the line, so that there is room for it.
use Rattle.std.proofs.Common.{length, ◌+◌, ◌≤◌}
use Rattle.script.specs.Reader.{left}
use Rattle.script.proofs.reader.Reader.bytes.Given as goal

abbrev pub invariant-loop-word : goal.invariant-loop-word
invariant-loop-word l = l.count + length (left l.self) ≤ length l.bytes

abbrev pub decreases-loop-word : goal.decreases-loop-word
decreases-loop-word l = length (left l.self)
