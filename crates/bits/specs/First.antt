-- Rules in a row, each a test and what it gives: the first that applies decides. Refusals, requests and the verdicts on
-- transactions are such rows; a write that is ignored for one of several reasons is one too.
use Rattle.std.specs.Prelude.{Bool, cond, List, [], ◌∷◌}

-- what the first rule gives whose test holds, else the last argument
abbrev pub first_of : {A : Type 0} → List (Bool × A) → A → A
first_of [] otherwise = otherwise
first_of (rule ∷ rules) otherwise = cond rule.0 rule.1 (first_of rules otherwise)

-- x stays where one of the tests holds, else it becomes y
abbrev pub unless : {A : Type 0} → List Bool → A → A → A
unless [] x y = y
unless (t ∷ ts) x y = cond t x (unless ts x y)
