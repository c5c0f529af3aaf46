-- What a session keeps from one read to the next.
use Rattle.std.specs.Prelude.{ℕ, List, ◌-◌, min, take, drop}

-- of so many bytes of text, those from a place on, which are not taken: a line whose end is still to come, its first 16,386 bytes at most
abbrev pub kept : List ℕ → ℕ → ℕ → List ℕ
kept text start filled = take (min (filled - start) 16386) (drop start text)
