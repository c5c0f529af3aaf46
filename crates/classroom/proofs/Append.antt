-- Grounds in two rows, one after the other: the second row is looked at where the first accepts.
use Rattle.std.specs.Prelude.{Ok, Err}
use mathlib.Core.Path.{◌≡◌, refl}
use mathlib.Core.Bool.{Bool, true, false}
use mathlib.Core.List.{List, [], ◌∷◌, ◌++◌}
use Rattle.refusal.specs.declared.Refusal.{Refusal}
use Rattle.refusal.specs.Check.{Checked}
use Rattle.refusal.specs.Check.{check}

abbrev pub then_found : Checked → Checked → Checked
then_found (Ok tt) v = v
then_found (Err r) v = Err r

-- one ground more
one_more : (t : Bool) (r : Refusal) (gs hs : List (Bool × Refusal)) → then_found (check gs) (check hs) ≡ check (gs ++ hs)
    → then_found (check ((t, r) ∷ gs)) (check hs) ≡ check ((t, r) ∷ gs ++ hs)
one_more true r gs hs e = refl
one_more false r gs hs e = e

pub check_append : (gs hs : List (Bool × Refusal)) → then_found (check gs) (check hs) ≡ check (gs ++ hs)
check_append [] hs = refl
check_append (g ∷ gs) hs = one_more g.0 g.1 gs hs (check_append gs hs)
