-- A lesson worked out by hand, entry by entry: what is sent, and what is written for it (document 02, Ask 5).
use Rattle.std.specs.Prelude.{List, [], ◌∷◌, ◌++◌, ℕ}
use Rattle.lesson.specs.Lesson.{LessonEntry}

-- a transfer, or an event's body; one tick each, since ticks change nothing of what is played
abbrev sends : List ℕ → LessonEntry
sends bytes = record { kind = 1; tick = 1; body = bytes }

abbrev happens : List ℕ → LessonEntry
happens bytes = record { kind = 2; tick = 1; body = bytes }

abbrev pub played_example : List (LessonEntry × List ℕ)
played_example =
    -- power-on, oscillator stable
    (happens (0x01 ∷ []), 0 ∷ 0 ∷ 0 ∷ 0 ∷ []) ∷
    (happens (0x02 ∷ []), 0 ∷ 0 ∷ 0 ∷ 0 ∷ []) ∷
    -- CONNECT; three bytes are stored and armed at endpoint 2
    (sends (0x7a ∷ 0x08 ∷ []), 0 ∷ 0 ∷ 2 ∷ 0 ∷ 0x00 ∷ 0x00 ∷ []) ∷
    (sends (0x12 ∷ 0x11 ∷ 0x22 ∷ 0x33 ∷ []), 0 ∷ 0 ∷ 4 ∷ 0 ∷ 0x00 ∷ 0x00 ∷ 0x00 ∷ 0x00 ∷ []) ∷
    (sends (0x3a ∷ 0x03 ∷ []), 0 ∷ 0 ∷ 2 ∷ 0 ∷ 0x00 ∷ 0x00 ∷ []) ∷
    -- the ACK is lost, so the packet comes again with its toggle; then there is none
    (happens (0x0c ∷ 0x00 ∷ 0x02 ∷ 0x00 ∷ []), 0 ∷ 0xc3 ∷ 3 ∷ 0 ∷ 0x11 ∷ 0x22 ∷ 0x33 ∷ []) ∷
    (happens (0x0c ∷ 0x00 ∷ 0x02 ∷ 0x01 ∷ []), 0 ∷ 0xc3 ∷ 3 ∷ 0 ∷ 0x11 ∷ 0x22 ∷ 0x33 ∷ []) ∷
    (happens (0x0c ∷ 0x00 ∷ 0x02 ∷ 0x01 ∷ []), 0 ∷ 0x5a ∷ 0 ∷ 0 ∷ []) ∷
    -- R11 as at the start
    (sends (0x58 ∷ 0x00 ∷ []), 0 ∷ 0 ∷ 2 ∷ 0 ∷ 0x00 ∷ 0x19 ∷ []) ∷
    -- refused: a mark that IN has not, no command byte, an OUT to address 80
    (happens (0x0c ∷ 0x00 ∷ 0x02 ∷ 0x02 ∷ []), 5 ∷ 0 ∷ 0 ∷ 0 ∷ []) ∷
    (sends [], 2 ∷ 0 ∷ 0 ∷ 0 ∷ []) ∷
    (happens (0x0b ∷ 0x80 ∷ 0x01 ∷ 0x00 ∷ 0x41 ∷ []), 7 ∷ 0 ∷ 0 ∷ 0 ∷ []) ∷
    -- OUT: damaged, and as it was sent; then it is read
    (happens (0x0b ∷ 0x00 ∷ 0x01 ∷ 0x01 ∷ 0x41 ∷ []), 0 ∷ 0 ∷ 0 ∷ 0 ∷ []) ∷
    (happens (0x0b ∷ 0x00 ∷ 0x01 ∷ 0x00 ∷ 0x41 ∷ []), 0 ∷ 0xd2 ∷ 0 ∷ 0 ∷ []) ∷
    (sends (0x08 ∷ 0x00 ∷ []), 0 ∷ 0 ∷ 2 ∷ 0 ∷ 0x00 ∷ 0x41 ∷ []) ∷
    []

-- all that is written, one after the other
abbrev pub in_row : List (LessonEntry × List ℕ) → List ℕ
in_row [] = []
in_row (e ∷ es) = e.1 ++ in_row es
