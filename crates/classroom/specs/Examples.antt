-- A class, worked out by hand from document 02, Ask 3: each call with what it answers, from the classroom in which all desks are closed.
use Rattle.std.specs.Prelude.{List, [], ◌∷◌, false, ℕ, length, replicate, take, Option, None, Result, Ok, Err}
use Rattle.refusal.specs.declared.Refusal.{Refusal}
use Rattle.refusal.specs.declared.Refusal.TheVariants.{NoDesk, DeskState, WrongKey, BadKey, NoCommand, ShortBuffer}
use Rattle.refusal.specs.Check.{Checked}
use Rattle.chip.specs.declared.Pin.{Pin}
use Rattle.chip.specs.declared.Pin.TheVariants.{High, Open}
use Rattle.model.specs.declared.Event.{Event}
use Rattle.model.specs.Call.{transfer, event}
use Rattle.firmware.specs.declared.RequestReply.{RequestReply}
use Rattle.event_answer.specs.declared.EventReply.{EventReply}
use Rattle.event_answer.specs.declared.EventReply.TheVariants as bus
use Rattle.classroom_record.specs.declared.DeskNumber.{DeskNumber}
use Rattle.classroom_record.specs.declared.Classroom.{Classroom}
use Rattle.classroom.specs.Calls.{open_answer, close_answer, desk_transfer, transfer_lent, desk_event, desk_step}

-- a call with its answer; a transfer is lent 8 bytes, of which the first are shown, an event none and a step 64
pub data Lesson : Type 0 where
  opens : (desk key : ℕ) → Checked → Lesson
  closes : (desk : ℕ) → Checked → Lesson
  sends : (desk key : ℕ) (bytes : List ℕ) → Result ℕ Refusal → Pin → List ℕ → Lesson
  signals : (desk key code : ℕ) → Result EventReply Refusal → Pin → Lesson
  serves : (desk key : ℕ) → Result (Option RequestReply) Refusal → Pin → Lesson

abbrev pub desk : ℕ → DeskNumber
desk n = record { 0 = n }

-- an event of that code, all else 0
abbrev pub plain : ℕ → Event
plain code =
    record { code = code; pins = 0; address = 0; endpoint = record { 0 = 0 }; damaged = false; data1 = false; acknowledged = false }

-- what the calls answer
abbrev pub taught : Classroom → List Lesson → List Lesson
taught room [] = []
taught room (opens n key v ∷ ls) = let a = open_answer room (desk n) key in opens n key a.checked ∷ taught a.classroom ls
taught room (closes n v ∷ ls) = let a = close_answer room (desk n) in closes n a.checked ∷ taught a.classroom ls
taught room (sends n key bytes r p vs ∷ ls) =
    let a = desk_transfer room (desk n) key (transfer bytes 8) in
    sends n key bytes a.reply a.pin (take (length vs) (transfer_lent room (desk n) key bytes (replicate 8 0xEE)))
    ∷ taught a.state ls
taught room (signals n key code r p ∷ ls) =
    let a = desk_event room (desk n) key (event (plain code) [] 0) in signals n key code a.reply a.pin ∷ taught a.state ls
taught room (serves n key r p ∷ ls) =
    let a = desk_step room (desk n) key 64 in serves n key a.reply a.pin ∷ taught a.state ls

-- ---- a transfer that is answered with these bytes, and one that is turned away

abbrev pub answers : ℕ → ℕ → List ℕ → List ℕ → Lesson
answers n key bytes vs = sends n key bytes (Ok (length bytes)) High vs

abbrev pub refuses : ℕ → ℕ → Refusal → Lesson
refuses n key r = sends n key (0x90 ∷ 0 ∷ []) (Err r) Open (0xEE ∷ 0xEE ∷ [])

abbrev pub class : List Lesson
class =
    -- every desk starts closed; there are sixteen
    refuses 3 7 DeskState ∷ closes 3 (Err DeskState) ∷ refuses 16 7 NoDesk ∷ opens 16 7 (Err NoDesk) ∷ closes 255 (Err NoDesk)
    ∷ opens 15 0 (Err BadKey)
    -- opening; a desk that is open, a key in use, another key
    ∷ opens 3 0x10007 (Ok tt) ∷ opens 3 8 (Err DeskState) ∷ opens 3 0 (Err DeskState) ∷ opens 4 0x10007 (Err BadKey)
    ∷ opens 4 9 (Ok tt)
    -- the key is compared whole: 00010007 is neither 7 nor 30007
    ∷ refuses 3 7 WrongKey ∷ refuses 3 0x30007 WrongKey ∷ refuses 3 9 WrongKey ∷ refuses 3 0 WrongKey ∷ refuses 5 9 DeskState
    -- each desk has records of its own: R9 of desk 3 is written, desk 4 reads its own
    ∷ answers 3 0x10007 (0x4A ∷ 0x10 ∷ []) (0 ∷ 0 ∷ []) ∷ answers 3 0x10007 (0x48 ∷ 0 ∷ []) (0 ∷ 0x10 ∷ [])
    ∷ answers 4 9 (0x48 ∷ 0 ∷ []) (0 ∷ 0 ∷ [])
    -- the board's own refusals, with the pin of the desk
    ∷ sends 3 0x10007 [] (Err NoCommand) High [] ∷ sends 3 0x10007 (replicate 9 0x48) (Err ShortBuffer) High (0xEE ∷ [])
    -- events and steps; power-on keeps the desk open with its key
    ∷ signals 3 9 1 (Err WrongKey) Open ∷ serves 3 9 (Err WrongKey) Open ∷ serves 3 0x10007 (Ok None) High
    ∷ signals 3 0x10007 1 (Ok bus.Done) High ∷ answers 3 0x10007 (0x48 ∷ 0 ∷ []) (0 ∷ 0 ∷ []) ∷ opens 3 5 (Err DeskState)
    -- closing: the key is free again, the records are those of power-on
    ∷ answers 3 0x10007 (0x4A ∷ 0x10 ∷ []) (0 ∷ 0 ∷ []) ∷ closes 3 (Ok tt) ∷ refuses 3 0x10007 DeskState ∷ refuses 3 0 DeskState
    ∷ serves 3 0 (Err DeskState) Open ∷ closes 3 (Err DeskState) ∷ opens 5 0x10007 (Ok tt) ∷ opens 3 0x10007 (Err BadKey)
    ∷ opens 3 8 (Ok tt) ∷ answers 3 8 (0x48 ∷ 0 ∷ []) (0 ∷ 0 ∷ [])
    -- nobody else was touched
    ∷ answers 4 9 (0x48 ∷ 0 ∷ []) (0 ∷ 0 ∷ []) ∷ []
