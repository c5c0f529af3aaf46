-- What is left of a line that is read.
use Rattle.std.specs.Prelude.{ℕ, List, ◌≤◌, length}
use Rattle.script.specs.declared.reader.Reader.{Reader}

abbrev pub left : Reader → List ℕ
left r = r.words.rest.now

-- reading takes words away, and puts none back
abbrev pub NoLonger : Reader → Reader → Type 0
NoLonger old new = length (left new) ≤ length (left old)
