-- What a byte read from each register gives, and what the read moves (document 01, "Reads").
use Rattle.std.specs.Prelude.{Bool, cond, List, [], ◌∷◌, ℕ, ◌+◌, ltb, get_or}
use Rattle.ring.specs.Ring.{oldest_count, oldest_packet}
use Rattle.chip.specs.declared.Endpoint0.{Endpoint0}
use Rattle.chip.specs.declared.Endpoint1.{Endpoint1}
use Rattle.chip.specs.declared.Chip.{Chip}
use Rattle.chip.specs.Record.{control_register}
use Rattle.chip.specs.Set.{set_ep0, set_ep1}
use Rattle.model.specs.Reply.{Outcome, outcome}

abbrev pub ReadRule : Type 0
ReadRule = Chip → Outcome Chip ℕ

-- ---- R0, R1, R4: the byte at the read position, which moves on; past the end 0, and no move

abbrev pub read_fifo : Bool → ℕ → Chip → ReadRule
read_fifo left byte moved c = cond left (outcome moved byte) (outcome c 0)

-- endpoint 0 with R0's and R4's read positions moved
abbrev pub ep0_at : ℕ → ℕ → Endpoint0 → Endpoint0
ep0_at readpos setuppos e = record {
  bytes = e.bytes;
  setup = e.setup;
  count = e.count;
  armed = e.armed;
  readpos = readpos;
  writepos = e.writepos;
  setuppos = setuppos;
  intoggle = e.intoggle;
  outtoggle = e.outtoggle;
  current = e.current;
}

-- R0, EP0FIFO (000 page 10): the end is R5's count (decision 15)
abbrev pub read_ep0fifo : ReadRule
read_ep0fifo c =
    read_fifo (ltb c.ep0.readpos c.ep0.count) (get_or c.ep0.bytes c.ep0.readpos 0)
    (set_ep0 (ep0_at (c.ep0.readpos + 1) c.ep0.setuppos c.ep0) c) c

abbrev pub ep1_read : Endpoint1 → Endpoint1
ep1_read e = record { ring = e.ring; readpos = e.readpos + 1; toggle = e.toggle }

-- R1, EP1OUTFIFO (000 page 14): within the older waiting packet, 0 if none
abbrev pub read_ep1outfifo : ReadRule
read_ep1outfifo c =
    read_fifo (ltb c.ep1.readpos (oldest_count 2 c.ep1.ring)) (get_or (oldest_packet 2 c.ep1.ring) c.ep1.readpos 0)
    (set_ep1 (ep1_read c.ep1) c) c

-- R4, SUDFIFO (000 page 67): eight bytes
abbrev pub read_sudfifo : ReadRule
read_sudfifo c =
    read_fifo (ltb c.ep0.setuppos 8) (get_or c.ep0.setup c.ep0.setuppos 0)
    (set_ep0 (ep0_at c.ep0.readpos (c.ep0.setuppos + 1) c.ep0) c) c

-- ---- no other read moves anything

-- R2 and R3, EP2INFIFO and EP3INFIFO (h)
abbrev pub read_nothing : ReadRule
read_nothing c = outcome c 0

-- R5 to R20, and 0 above: R5 is the last armed or received count (000 page 9), R6 that of the older waiting packet or 0 (13), R7 and
-- R8 the last armed count (17, 21), R18 reads 1 (h)
abbrev pub read_control : ℕ → ReadRule
read_control n c = outcome c (control_register c n)

-- ---- register n: R0 to R4, then the control registers

abbrev pub fifo_reads : List ReadRule
fifo_reads = read_ep0fifo ∷ read_ep1outfifo ∷ read_nothing ∷ read_nothing ∷ read_sudfifo ∷ []

abbrev pub read_rule : ℕ → ReadRule
read_rule n = get_or fifo_reads n (read_control n)
