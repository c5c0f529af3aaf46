-- Past a packet's end there is no byte, so the test on the end may be left out.
use mathlib.Core.Path.{◌≡◌}
use mathlib.Core.Bool.{cond}
use mathlib.Core.List.{List}
use Prim.Native.Nat.{ℕ}
use native.Mathlib.Decide.{dec_lt}
use native.Mathlib.Omega.{arith}
use lib.Dec.{ltb}
use lib.ListN.{get_or}
use borrow.Author.Tests.{lt-ltb, le-ltb}
use Rattle.ring.specs.Ring.{packet}
use Rattle.ring.proofs.Packet.{packet_past}

pub byte_or_none : (s : List ℕ) (i c p : ℕ) → get_or (packet s i c) p 0 ≡ cond (ltb p c) (get_or (packet s i c) p 0) 0
byte_or_none s i c p =
    elim (dec_lt p c) [
      | yes l ↦ rw (lt-ltb p c l)
      | no g ↦ rw (le-ltb p c (omega arith)) (packet_past s i c p (omega arith))
    ]
