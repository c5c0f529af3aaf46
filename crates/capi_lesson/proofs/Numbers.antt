-- A refused replay counts no bytes.
use Rattle.std.specs.Prelude.{ℕ, Result, Ok, Err}
use Rattle.refusal.specs.declared.Refusal.{Refusal}
use mathlib.Core.Path.{◌≡◌, refl}
use Rattle.refusal.specs.Check.{unless_refused, tells}
use Rattle.replay.specs.Replay.{replay_count}

pub count_told : (r : Result ℕ Refusal) → unless_refused (tells r) (replay_count r) ≡ replay_count r
count_told (Err r) = refl
count_told (Ok n) = refl
