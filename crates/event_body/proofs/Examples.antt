-- The examples are read as they say, and the broken bodies as event 0, by computation.
use mathlib.Core.Path.{◌≡◌, refl}
use mathlib.Core.List.{List, map}
use Prim.Native.Nat.{ℕ}
use Rattle.event_body.specs.Body.{signal, event_of}
use Rattle.event_body.specs.Examples.{reading, examples, broken}

pub examples_hold : (map reading examples ≡ examples) × (map event_of broken ≡ map (λ (xs : List ℕ). signal 0) broken)
unfolding event_of
examples_hold = (refl, refl)
