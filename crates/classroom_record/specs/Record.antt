-- The classroom's record: sixteen desks, how they start, and when a desk is sound (document 02, Ask 3).
use Rattle.std.specs.Prelude.{Bool, true, false, cond, ◌&&◌, ◌||◌, List, [], ◌∷◌, ℕ, eqb, ltb, get_or, set, replicate}
use Rattle.bits.specs.Clauses.{clauses}
use Rattle.bits.specs.Flag.{is_on}
use Rattle.chip.specs.Same.{same_chip}
use Rattle.same.specs.Firmware.{same_firmware}
use Rattle.board_record.specs.declared.Board.{Board}
use Rattle.board_record.specs.Record.{power_on_board, sound_board}
use Rattle.classroom_record.specs.declared.Desk.{Desk}
use Rattle.classroom_record.specs.declared.DeskNumber.{DeskNumber}
use Rattle.classroom_record.specs.declared.Classroom.{Classroom}

-- desks 0 to 15
abbrev pub is_desk : DeskNumber → Bool
is_desk n = ltb n.0 16

-- ---- a desk

abbrev pub is_open : Desk → Bool
is_open d = is_on d.opened

-- both records at power-on, and no key
abbrev pub closed_desk : Desk
closed_desk = record { board = power_on_board; opened = 0; key = 0 }

abbrev pub same_board : Board → Board → Bool
same_board a b = same_chip a.chip b.chip && same_firmware a.firmware b.firmware

-- a closed desk's records are sound only at power-on; its key is 0
unfoldable pub sound_desk : Desk → Bool
sound_desk d = cond (is_open d) (sound_board d.board) (clauses (same_board d.board power_on_board ∷ eqb d.opened 0 ∷ eqb d.key 0 ∷ []))

-- ---- the classroom

-- all sixteen start closed
abbrev pub all_closed : Classroom
all_closed = record { desks = replicate 16 closed_desk }

abbrev pub desk_at : Classroom → DeskNumber → Desk
desk_at room n = get_or room.desks n.0 closed_desk

abbrev pub set_desk : DeskNumber → Desk → Classroom → Classroom
set_desk n d room = record { desks = set room.desks n.0 d }

-- some open desk has that key
abbrev pub key_among : List Desk → ℕ → Bool
key_among [] key = false
key_among (d ∷ ds) key = (is_open d && eqb d.key key) || key_among ds key

abbrev pub key_in_use : Classroom → ℕ → Bool
key_in_use room key = key_among room.desks key

-- every desk is sound
abbrev pub all_sound : List Desk → Bool
all_sound [] = true
all_sound (d ∷ ds) = sound_desk d && all_sound ds

abbrev pub sound_classroom : Classroom → Bool
sound_classroom room = all_sound room.desks
