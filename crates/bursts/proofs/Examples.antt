-- The copy worked out by hand, on a buffer of four bytes that is the last part of a list of nine.
use mathlib.Core.Path.{◌≡◌, refl}
use mathlib.Core.List.{List, [], ◌∷◌}
use Prim.Native.Nat.{ℕ}
use Rattle.bursts.specs.Burst.{Filling, filling, copied_to}

-- after a burst that writes from a position on, up to a limit
abbrev after : ℕ → ℕ → List ℕ → Filling
after limit position = copied_to 5 limit (filling (1 ∷ 1 ∷ 1 ∷ 1 ∷ 1 ∷ 0 ∷ 0 ∷ 0 ∷ 0 ∷ []) position)

pub fits : after 4 1 (7 ∷ 8 ∷ []) ≡ filling (1 ∷ 1 ∷ 1 ∷ 1 ∷ 1 ∷ 0 ∷ 7 ∷ 8 ∷ 0 ∷ []) 3
fits = refl

pub passes_the_end : after 4 3 (7 ∷ 8 ∷ []) ≡ filling (1 ∷ 1 ∷ 1 ∷ 1 ∷ 1 ∷ 0 ∷ 0 ∷ 0 ∷ 7 ∷ []) 4
passes_the_end = refl

pub at_the_end : after 4 4 (7 ∷ 8 ∷ []) ≡ filling (1 ∷ 1 ∷ 1 ∷ 1 ∷ 1 ∷ 0 ∷ 0 ∷ 0 ∷ 0 ∷ []) 4
at_the_end = refl

pub while_chips : after 0 1 (7 ∷ 8 ∷ []) ≡ filling (1 ∷ 1 ∷ 1 ∷ 1 ∷ 1 ∷ 0 ∷ 0 ∷ 0 ∷ 0 ∷ []) 1
while_chips = refl
