-- A list of tests that must all hold. It computes to what the code's `a & b & c` means, the first two joined first.
use Rattle.std.specs.Prelude.{Bool, true, ◌&&◌, List, [], ◌∷◌}

abbrev pub joined : Bool → List Bool → Bool
joined a [] = a
joined a (b ∷ bs) = joined (a && b) bs

abbrev pub clauses : List Bool → Bool
clauses [] = true
clauses (b ∷ bs) = joined b bs
