-- A flag of a record is a number, as C programs hold it: 1 is on, 0 is off, and a sound record has no other.
use Rattle.std.specs.Prelude.{Bool, cond, List, [], ◌∷◌, ℕ, eqb, leb}

abbrev pub is_on : ℕ → Bool
is_on x = eqb x 1

-- 0 or 1
abbrev pub is_flag : ℕ → Bool
is_flag x = leb x 1

-- each number of a list
abbrev pub flag_each : List ℕ → List Bool
flag_each [] = []
flag_each (x ∷ xs) = is_flag x ∷ flag_each xs

-- the other of the two: a toggle that flips
abbrev pub flipped : ℕ → ℕ
flipped x = cond (is_on x) 0 1
