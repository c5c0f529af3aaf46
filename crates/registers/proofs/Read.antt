-- Reads of R0, R1 and R4: the byte, and the record with its position moved, from what the endpoint gives.
use mathlib.Core.Path.{◌≡◌}
use Prim.Native.Nat.{ℕ, ◌+◌}
use lib.Dec.{ltb}
use lib.ListN.{get_or}
use Rattle.ring.specs.Ring.{oldest_count, oldest_packet}
use Rattle.chip.specs.declared.Endpoint1.{Endpoint1}
use Rattle.chip.specs.declared.Chip.{Chip}
use Rattle.chip.specs.Set.{set_ep0, set_ep1}
use Rattle.rules.specs.Read.{ep0_at, ep1_read, read_ep0fifo, read_ep1outfifo, read_sudfifo}
use Rattle.fifos.proofs.Read.{fifo_gives, fifo_state}
use Rattle.fifos.specs.Fifo.{position_to, ep0_byte_of, ep1_byte_of, setup_byte_of}

-- ---- R0

pub read_ep0 : (c : Chip) → ep0_byte_of c.ep0 ≡ (read_ep0fifo c).gives
read_ep0 c =
    fifo_gives (ltb c.ep0.readpos c.ep0.count) (get_or c.ep0.bytes c.ep0.readpos 0)
    (set_ep0 (ep0_at (c.ep0.readpos + 1) c.ep0.setuppos c.ep0) c) c

pub move_ep0 : (c : Chip) → set_ep0 (ep0_at (position_to c.ep0.readpos c.ep0.count) c.ep0.setuppos c.ep0) c ≡ (read_ep0fifo
    c).state
move_ep0 c =
    fifo_state (ltb c.ep0.readpos c.ep0.count) (get_or c.ep0.bytes c.ep0.readpos 0) c.ep0.readpos
    (λ p. set_ep0 (ep0_at p c.ep0.setuppos c.ep0) c)

-- ---- R1

abbrev pub ep1_at : ℕ → Endpoint1 → Endpoint1
ep1_at readpos e = record { ring = e.ring; readpos = readpos; toggle = e.toggle }

pub read_ep1 : (c : Chip) → ep1_byte_of c.ep1 ≡ (read_ep1outfifo c).gives
read_ep1 c =
    fifo_gives (ltb c.ep1.readpos (oldest_count 2 c.ep1.ring)) (get_or (oldest_packet 2 c.ep1.ring) c.ep1.readpos 0)
    (set_ep1 (ep1_read c.ep1) c) c

pub move_ep1 : (c : Chip) → set_ep1 (ep1_at (position_to c.ep1.readpos (oldest_count 2 c.ep1.ring)) c.ep1) c ≡ (read_ep1outfifo c
    ).state
move_ep1 c =
    fifo_state (ltb c.ep1.readpos (oldest_count 2 c.ep1.ring)) (get_or (oldest_packet 2 c.ep1.ring) c.ep1.readpos 0)
    c.ep1.readpos
    (λ p. set_ep1 (ep1_at p c.ep1) c)

-- ---- R4

pub read_setup : (c : Chip) → setup_byte_of c.ep0 ≡ (read_sudfifo c).gives
read_setup c =
    fifo_gives (ltb c.ep0.setuppos 8) (get_or c.ep0.setup c.ep0.setuppos 0)
    (set_ep0 (ep0_at c.ep0.readpos (c.ep0.setuppos + 1) c.ep0) c) c

pub move_setup : (c : Chip) → set_ep0 (ep0_at c.ep0.readpos (position_to c.ep0.setuppos 8) c.ep0) c ≡ (read_sudfifo c).state
move_setup c =
    fifo_state (ltb c.ep0.setuppos 8) (get_or c.ep0.setup c.ep0.setuppos 0) c.ep0.setuppos
    (λ p. set_ep0 (ep0_at c.ep0.readpos p c.ep0) c)
