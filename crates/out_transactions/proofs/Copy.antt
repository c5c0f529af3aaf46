-- What a copy to the front of an array makes of it. Any lists.
use mathlib.Core.Path.{◌≡◌}
use mathlib.Core.List.{List, ◌++◌, append-nil}
use Prim.Native.Nat.{ℕ, ◌+◌, ◌≤◌}
use native.Mathlib.Omega.{arith}
use lib.ListN.{length, drop, drop_of_length-le}
use lib.Seq.{sets, sets-eq}

-- as many bytes as the array has take its place
pub copied_whole : (vs dst : List ℕ) → length dst ≤ length vs → vs ++ drop (length vs) dst ≡ vs
copied_whole vs dst fits = rw (drop_of_length-le dst fits) (append-nil vs)

-- fewer are stored at its start, and the rest stays
pub copied_front : (vs dst : List ℕ) → length vs ≤ length dst → vs ++ drop (length vs) dst ≡ sets dst 0 vs
copied_front vs dst fits =
    let start : 0 + length vs ≡ length vs = omega arith in
    rw (sets-eq vs dst 0 (omega arith), start)
