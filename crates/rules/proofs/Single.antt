-- Endpoints 0 and 3 have a single buffer, which is a ring of one: storing a byte, arming and an acknowledged IN are the ring's
-- operations at n = 1, and what is sent is its oldest packet. So the laws of any number of buffers speak of them too.
use mathlib.Core.Path.{◌≡◌, sym}
use mathlib.Core.Bool.{true, false}
use Prim.Native.Nat.{ℕ}
use lib.ListN.{take}
use Rattle.bits.specs.Flag.{is_on}
use Rattle.ring.specs.declared.Ring.{Ring}
use Rattle.ring.specs.Ring.{oldest_packet, store_byte, arm_next, release_oldest, single}
use Rattle.ring.proofs.Single.{single_stores, single_arms, single_releases, single_oldest}
use Rattle.chip.specs.declared.Endpoint0.{Endpoint0}
use Rattle.chip.specs.declared.Endpoint3.{Endpoint3}
use Rattle.rules.specs.Write.{ep0_stored, ep0_armed, ep3_stored, ep3_armed}
use Rattle.rules.specs.In.{ep0_gone, ep3_gone}

abbrev pub ring0 : Endpoint0 → Ring
ring0 e = single e.bytes e.count (is_on e.armed)

abbrev pub ring3 : Endpoint3 → Ring
ring3 e = single e.bytes e.count (is_on e.armed)

pub ep0_stores : (e : Endpoint0) (b : ℕ) → is_on e.armed ≡ false → ring0 (ep0_stored e b) ≡ store_byte 1 (ring0 e) e.writepos b
ep0_stores e b free = rw free (sym (single_stores e.bytes e.count e.writepos b))

pub ep0_arms : (e : Endpoint0) (n : ℕ) → is_on e.armed ≡ false → ring0 (ep0_armed e n) ≡ arm_next 1 (ring0 e) n
ep0_arms e n free = rw free (sym (single_arms e.bytes e.count n))

pub ep0_leaves : (e : Endpoint0) → is_on e.armed ≡ true → ring0 (ep0_gone e) ≡ release_oldest 1 (ring0 e)
ep0_leaves e waits = rw waits (sym (single_releases e.bytes e.count))

pub ep0_sends : (e : Endpoint0) → is_on e.armed ≡ true → take e.count e.bytes ≡ oldest_packet 1 (ring0 e)
ep0_sends e waits = rw waits (sym (single_oldest e.bytes e.count))

pub ep3_stores : (e : Endpoint3) (b : ℕ) → is_on e.armed ≡ false → ring3 (ep3_stored e b) ≡ store_byte 1 (ring3 e) e.writepos b
ep3_stores e b free = rw free (sym (single_stores e.bytes e.count e.writepos b))

pub ep3_arms : (e : Endpoint3) (n : ℕ) → is_on e.armed ≡ false → ring3 (ep3_armed e n) ≡ arm_next 1 (ring3 e) n
ep3_arms e n free = rw free (sym (single_arms e.bytes e.count n))

pub ep3_leaves : (e : Endpoint3) → is_on e.armed ≡ true → ring3 (ep3_gone e) ≡ release_oldest 1 (ring3 e)
ep3_leaves e waits = rw waits (sym (single_releases e.bytes e.count))

pub ep3_sends : (e : Endpoint3) → is_on e.armed ≡ true → take e.count e.bytes ≡ oldest_packet 1 (ring3 e)
ep3_sends e waits = rw waits (sym (single_oldest e.bytes e.count))
