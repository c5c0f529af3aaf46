-- What the line of a lesson's script says.
use Rattle.std.specs.Prelude.{cond, List, ℕ, ◌+◌, ◌*◌, ltb, Option, Some, None}
use Rattle.numerals.specs.Numerals.{digits_of}
use Rattle.script.specs.Command.{command_count}
use Rattle.lesson_script.specs.declared.Line.{Line}
use Rattle.lesson_script.specs.declared.Line.TheVariants.{Tick, Call}

-- how many bytes of the lent buffer it counts
abbrev pub line_count : Line → ℕ
line_count (Tick n) = 0
line_count (Call k) = command_count k

-- a number with one more digit; over 32 bits it is none
abbrev pub exact : ℕ → ℕ → ℕ → Option ℕ
exact base n d = cond (ltb 4294967295 (n * base + d)) None (Some (n * base + d))

-- a decimal number of 32 bits: one digit at least
abbrev pub tick_of : List ℕ → Option ℕ
tick_of xs = digits_of exact 10 xs
