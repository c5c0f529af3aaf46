-- What a blank is, and the next word of a line.
use Rattle.std.specs.Prelude.{◌≡◌, ◌||◌, not, eqb, ℕ, Bool, List, Option, None, ◌+◌, ◌<◌, ◌≤◌, length, take, drop, position, MatchOption}
use Rattle.std.specs.List.{position_or_len}
use denote.Ref.{Bor}
use Rattle.words.specs.declared.Words.{Words}

-- a blank or a tab
abbrev pub is_blank : ℕ → Bool
is_blank b = eqb b 32 || eqb b 9

abbrev pub is_glyph : ℕ → Bool
is_glyph b = not (is_blank b)

-- a line from its first word on
abbrev pub from_word : List ℕ → List ℕ
from_word xs = drop (position_or_len is_glyph xs) xs

-- its first word, up to the next blank, and what stands behind that
unfoldable pub first_word : List ℕ → List ℕ
first_word xs = take (position_or_len is_blank (from_word xs)) (from_word xs)

unfoldable pub after_word : List ℕ → List ℕ
after_word xs = drop (position_or_len is_blank (from_word xs)) (from_word xs)

-- w is the first word of xs, of a byte at least, and rest what stands behind it
pub record IsNext (xs w rest : List ℕ) : Type 0 where
  pub word : w ≡ first_word xs
  pub left : rest ≡ after_word xs
  pub some : 0 < length w
  pub within : length w + length rest ≤ length xs

-- the next word of a line, and what is left of the line; where it has none, nothing is taken
abbrev pub NextWord : Words → Option (Bor (List ℕ)) → Words → Type 0
NextWord s r t =
    MatchOption r ((position is_glyph s.rest.now ≡ None) × (t ≡ s)) (λ w. IsNext s.rest.now w.now t.rest.now)
