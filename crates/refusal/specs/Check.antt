-- Grounds of refusal in a row, each with its test: the first that applies is given (document 02, Ask 1, which takes the place of
-- document 01's "the lowest number that applies is given").
use Rattle.std.specs.Prelude.{Bool, List, ◌∷◌, map, ℕ, Result, Ok, Err}
use Rattle.bits.specs.First.{first_of}
use Rattle.refusal.specs.declared.Refusal.{Refusal}
use Rattle.refusal.specs.Number.{refusal_number, refusal_found, refusal_order, place_in}

-- whether a call is accepted, or why not: as `Result<(), Refusal>` in the code
abbrev pub Checked : Type 0
Checked = Result Unit Refusal

abbrev pub ground : Bool × Refusal → Bool × Checked
ground g = (g.0, Err g.1)

abbrev pub check : List (Bool × Refusal) → Checked
check gs = first_of (map ground gs) (Ok tt)

-- the number of refusal; 0 is none
abbrev pub checked_number : Checked → ℕ
checked_number (Ok tt) = 0
checked_number (Err r) = refusal_number r

-- the length that the refusal tells; 0 is none
abbrev pub checked_found : Checked → ℕ
checked_found (Ok tt) = 0
checked_found (Err r) = refusal_found r

-- what a reply tells of the check, whatever the reply is
abbrev pub tells : {A : Type 0} → Result A Refusal → Checked
tells (Ok a) = Ok tt
tells (Err r) = Err r

-- n where the call is accepted, else 0
abbrev pub unless_refused : Checked → ℕ → ℕ
unless_refused (Ok tt) n = n
unless_refused (Err r) n = 0

-- the place in the order of the grounds; 0, which is none, comes before all
abbrev pub checked_place : Checked → ℕ
checked_place v = place_in (0 ∷ refusal_order) (checked_number v)
