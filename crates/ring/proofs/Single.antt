-- A single buffer is a ring of one: storing a byte in it, arming it and letting its packet go are the ring's operations at
-- n = 1, so the laws for any number of buffers say what waits in it.
use mathlib.Core.Path.{◌≡◌, refl}
use mathlib.Core.Bool.{true, false}
use mathlib.Core.List.{List, [], ◌∷◌}
use Prim.Native.Nat.{ℕ}
use native.Mathlib.Nat.{zero-add}
use lib.ListN.{take, set}
use Rattle.ring.specs.Ring.{queue, oldest_packet, store_byte, arm_next, release_oldest, single}

pub single_stores : (s : List ℕ) (c p b : ℕ) → store_byte 1 (single s c false) p b ≡ single (set s p b) c false
single_stores s c p b = rw (zero-add p)

pub single_arms : (s : List ℕ) (b c : ℕ) → arm_next 1 (single s b false) c ≡ single s c true
single_arms s b c = refl

pub single_releases : (s : List ℕ) (c : ℕ) → release_oldest 1 (single s c true) ≡ single s c false
single_releases s c = refl

pub single_oldest : (s : List ℕ) (c : ℕ) → oldest_packet 1 (single s c true) ≡ take c s
single_oldest s c = refl

pub single_queue : (s : List ℕ) (c : ℕ) → (queue 1 (single s c false) ≡ []) × (queue 1 (single s c true) ≡ take c s ∷ [])
single_queue s c = (refl, refl)
