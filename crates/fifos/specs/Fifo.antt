-- R0 to R4 on the part of the record that each belongs to: what a byte written makes of it, the byte that is read, and the read
-- position after (document 01, "Writes" and "Reads").
use Rattle.std.specs.Prelude.{Bool, cond, ℕ, ◌+◌, ltb, get_or}
use Rattle.bits.specs.Flag.{is_on}
use Rattle.ring.specs.Ring.{full, oldest_count, oldest_packet}
use Rattle.chip.specs.declared.Endpoint0.{Endpoint0}
use Rattle.chip.specs.declared.Endpoint1.{Endpoint1}
use Rattle.chip.specs.declared.Endpoint2.{Endpoint2}
use Rattle.chip.specs.declared.Endpoint3.{Endpoint3}
use Rattle.rules.specs.Write.{store_fifo, ep0_stored, ep2_stored, ep3_stored}

-- ---- writes; endpoint 0 is busy while its buffer is the chip's

abbrev pub ep0_store_to : Bool → Endpoint0 → ℕ → Endpoint0
ep0_store_to busy e b = store_fifo e.writepos busy e (ep0_stored e b)

abbrev pub ep2_store_to : Endpoint2 → ℕ → Endpoint2
ep2_store_to e b = store_fifo e.writepos (full 2 e.ring) e (ep2_stored e b)

abbrev pub ep3_store_to : Endpoint3 → ℕ → Endpoint3
ep3_store_to e b = store_fifo e.writepos (is_on e.armed) e (ep3_stored e b)

-- ---- reads

-- the position after a read: it moves on before the end
abbrev pub position_to : ℕ → ℕ → ℕ
position_to position end = cond (ltb position end) (position + 1) position

abbrev pub ep0_byte_of : Endpoint0 → ℕ
ep0_byte_of e = cond (ltb e.readpos e.count) (get_or e.bytes e.readpos 0) 0

abbrev pub ep1_byte_of : Endpoint1 → ℕ
ep1_byte_of e = cond (ltb e.readpos (oldest_count 2 e.ring)) (get_or (oldest_packet 2 e.ring) e.readpos 0) 0

abbrev pub setup_byte_of : Endpoint0 → ℕ
setup_byte_of e = cond (ltb e.setuppos 8) (get_or e.setup e.setuppos 0) 0
