-- Which ground of refusal is given: each exactly when it applies and none before it does. An accepted call has no ground against it.
use Rattle.std.specs.Prelude.{Ok, Err}
use mathlib.Core.Path.{◌≡◌, refl, sym, ap, ◌∙◌}
use mathlib.Core.Logic.{◌↔◌}
use mathlib.Core.Bool.{Bool, true, false}
use mathlib.Core.List.{List, [], ◌∷◌, map}
use Prim.Native.Nat.{ℕ, zero, suc, ◌<◌}
use native.Mathlib.Omega.{arith}
use lib.ListN.{length, length-map}
use Rattle.bits.proofs.First.{test_at, first_none, none_gives, FirstAt, outcome_at, first_at, ascending, first_only}
use Rattle.refusal.specs.declared.Refusal.{Refusal}
use Rattle.refusal.specs.declared.Refusal.TheVariants.{Unsound, NoCommand, LongTransfer, ShortBuffer, UnknownEvent, OutPayload}
use Rattle.refusal.specs.declared.Refusal.TheVariants.{SetupPayload, BadAddress, NoDesk, DeskState, WrongKey, BadKey, NoLesson}
use Rattle.refusal.specs.Check.{Checked}
use Rattle.refusal.specs.Number.{refusal_number, refusal_found, refusal_of}
use Rattle.refusal.specs.Check.{ground, check, checked_place}

ground_test : (gs : List (Bool × Refusal)) (i : ℕ) → test_at (map ground gs) i ≡ test_at gs i
ground_test [] i = refl
ground_test (g ∷ gs) zero = refl
ground_test (g ∷ gs) (suc i) = ground_test gs i

-- ---- an accepted call

abbrev is_accepted : Checked → Bool
is_accepted (Ok tt) = true
is_accepted (Err r) = false

-- a ground refuses
grounds_refuse : (gs : List (Bool × Refusal)) → none_gives is_accepted (map ground gs) ≡ true
grounds_refuse [] = refl
grounds_refuse (g ∷ gs) = grounds_refuse gs

-- no ground of an accepted call applies
pub accepted_none : (gs : List (Bool × Refusal)) → check gs ≡ (Ok tt) → (i : ℕ) → test_at gs i ≡ false
accepted_none gs e i = sym (ground_test gs i) ∙ first_none is_accepted (map ground gs) (Ok tt) (grounds_refuse gs) (ap is_accepted e) i

-- ---- what a refusal tells

-- nothing, unless it is 6, 8 or 13
pub found_none : (r : Refusal) → (refusal_number r ≡ 6 → ⊥) → (refusal_number r ≡ 8 → ⊥) → (refusal_number r ≡ 13 → ⊥) → refusal_found r ≡ 0
found_none Unsound six eight thirteen = refl
found_none NoCommand six eight thirteen = refl
found_none LongTransfer six eight thirteen = refl
found_none ShortBuffer six eight thirteen = refl
found_none UnknownEvent six eight thirteen = refl
found_none (OutPayload n) six eight thirteen = absurd (six refl)
found_none (SetupPayload n) six eight thirteen = absurd (eight refl)
found_none BadAddress six eight thirteen = refl
found_none NoDesk six eight thirteen = refl
found_none DeskState six eight thirteen = refl
found_none WrongKey six eight thirteen = refl
found_none BadKey six eight thirteen = refl
found_none (NoLesson n) six eight thirteen = absurd (thirteen refl)

-- ---- a refusal by its number

-- its number and what it tells are the refusal
pub refusal_of_number : (r : Refusal) → refusal_of (refusal_number r) (refusal_found r) ≡ r
refusal_of_number Unsound = refl
refusal_of_number NoCommand = refl
refusal_of_number LongTransfer = refl
refusal_of_number ShortBuffer = refl
refusal_of_number UnknownEvent = refl
refusal_of_number (OutPayload n) = refl
refusal_of_number (SetupPayload n) = refl
refusal_of_number BadAddress = refl
refusal_of_number NoDesk = refl
refusal_of_number DeskState = refl
refusal_of_number WrongKey = refl
refusal_of_number BadKey = refl
refusal_of_number (NoLesson n) = refl

-- ---- a refused call

-- the grounds stand in the order of the paper
abbrev pub in_order : List (Bool × Refusal) → Bool
in_order gs = ascending checked_place 0 (map ground gs)

-- the refusal of ground i
abbrev pub refusal_at : List (Bool × Refusal) → ℕ → Checked
refusal_at gs i = outcome_at (Ok tt) (map ground gs) i

-- of grounds in the order of the paper, each is given exactly when it applies and none before it does
pub check_exactly : (gs : List (Bool × Refusal)) → in_order gs ≡ true → (i : ℕ) → i < length gs → (check gs ≡ refusal_at gs i) ↔ FirstAt gs i
check_exactly gs a i h = (given, λ f. first_at (map ground gs) (Ok tt) i (there f))
  where
    there : FirstAt gs i → FirstAt (map ground gs) i
    there f = record { applies = ground_test gs i ∙ f.applies; before = λ j l. ground_test gs j ∙ f.before j l }

    given : check gs ≡ refusal_at gs i → FirstAt gs i
    given e =
        let f = first_only checked_place 0 (map ground gs) (Ok tt) i a (omega arith) (omega (arith, h, length-map gs ground)) (ap checked_place e) in
        record { applies = sym (ground_test gs i) ∙ f.applies; before = λ j l. sym (ground_test gs j) ∙ f.before j l }
