-- The numbers of refusal (documents 01 and 02), the length or the entry that a refusal tells, and the order in which they are looked at.
use Rattle.std.specs.Prelude.{cond, List, [], ◌∷◌, ℕ, suc, eqb}
use Rattle.bits.specs.First.{first_of}
use Rattle.refusal.specs.declared.Refusal.{Refusal}
use Rattle.refusal.specs.declared.Refusal.TheVariants.{Unsound, NoCommand, LongTransfer, ShortBuffer, UnknownEvent, OutPayload}
use Rattle.refusal.specs.declared.Refusal.TheVariants.{SetupPayload, BadAddress, NoDesk, DeskState, WrongKey, BadKey, NoLesson}

abbrev pub refusal_number : Refusal → ℕ
refusal_number Unsound = 1
refusal_number NoCommand = 2
refusal_number LongTransfer = 3
refusal_number ShortBuffer = 4
refusal_number UnknownEvent = 5
refusal_number (OutPayload n) = 6
refusal_number (SetupPayload n) = 8
refusal_number BadAddress = 7
refusal_number NoDesk = 9
refusal_number DeskState = 10
refusal_number WrongKey = 11
refusal_number BadKey = 12
refusal_number (NoLesson n) = 13

-- Ask 1: 6 and 8 tell the length found; Ask 5: 13 tells the entry that it names; 0 with any other
abbrev pub refusal_found : Refusal → ℕ
refusal_found Unsound = 0
refusal_found NoCommand = 0
refusal_found LongTransfer = 0
refusal_found ShortBuffer = 0
refusal_found UnknownEvent = 0
refusal_found (OutPayload n) = n
refusal_found (SetupPayload n) = n
refusal_found BadAddress = 0
refusal_found NoDesk = 0
refusal_found DeskState = 0
refusal_found WrongKey = 0
refusal_found BadKey = 0
refusal_found (NoLesson n) = n

-- the refusal of a number, with what it tells (`refusal_of_number`)
abbrev pub refusal_of : ℕ → ℕ → Refusal
refusal_of k n =
    first_of
    ((eqb k 1, Unsound) ∷ (eqb k 2, NoCommand) ∷ (eqb k 3, LongTransfer) ∷ (eqb k 4, ShortBuffer) ∷ (eqb k 5, UnknownEvent)
    ∷ (eqb k 6, OutPayload n) ∷ (eqb k 8, SetupPayload n) ∷ (eqb k 9, NoDesk) ∷ (eqb k 10, DeskState) ∷ (eqb k 11, WrongKey)
    ∷ (eqb k 12, BadKey) ∷ (eqb k 13, NoLesson n) ∷ [])
    BadAddress

-- Ask 5: 13 comes before 4, and no call has grounds for it and for another one before 4; Ask 3: 9 to 12 are looked at before all the
-- old ones; Ask 1: 8 is checked where 6 is, before 7
abbrev pub refusal_order : List ℕ
refusal_order = 13 ∷ 9 ∷ 10 ∷ 11 ∷ 12 ∷ 1 ∷ 2 ∷ 3 ∷ 4 ∷ 5 ∷ 6 ∷ 8 ∷ 7 ∷ []

-- how many numbers of the list stand before n
abbrev pub place_in : List ℕ → ℕ → ℕ
place_in [] n = 0
place_in (x ∷ xs) n = cond (eqb x n) 0 (suc (place_in xs n))
