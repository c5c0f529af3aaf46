-- What is left, read on from the number so far, is what the whole word says.
use Rattle.std.proofs.Common.{length, drop, ◌≡◌}
use Rattle.numerals.specs.Numerals.{digits_from}
use Rattle.numerals.proofs.read_digits.Given as goal

abbrev pub invariant-loop-glyph : goal.invariant-loop-glyph
invariant-loop-glyph g l =
    (digits_from g.G.Growth.taken l.base l.number (drop l.glyph-index l.word) ≡ digits_from g.G.Growth.taken l.base 0 l.word)
    × (length l.word ≡ 0 → ⊥)
