-- The data bytes of a burst; and at a FIFO register, which stays selected, on no more than the buffer and its position: the SPI side of
-- these alone (document 01, "Writes" and "Reads").
use Rattle.std.specs.Prelude.{◌≡◌, Bool, true, cond, List, ◌++◌, ℕ, ◌+◌, ◌-◌, ◌*◌, leb, length, get_or, set, take, drop}
use Rattle.std.proofs.lemmas.List.Edits.{sets}
use Rattle.bits.specs.Flag.{is_on}
use Rattle.ring.specs.Ring.{full, next_buffer, with_bytes}
use Rattle.chip.specs.declared.Chip.{Chip}
use Rattle.chip.specs.Set.{set_ep0, set_ep2, set_ep3}
use Rattle.model.specs.Reply.{Outcome, outcome}
use Rattle.model.specs.Spi.{Spi, burst_to, burst_of}
use Rattle.rules.specs.Write.{ep0_busy}
use Rattle.fifos.specs.Fifo.{position_to}

abbrev pub fifo_spi : {S : Type 0} → (S → ℕ → S) → (S → Outcome S ℕ) → Spi S
fifo_spi write read = record { write = λ n. write; read = λ n. read; step = λ n. n; acknowledge = λ s. s; status = λ s. 0 }

-- what the data bytes of a transfer make of a state, and of the lent buffer
abbrev pub Burst : {S : Type 0} → Spi S → S → S → Bool → ℕ → List ℕ → List ℕ → List ℕ → Type 0
Burst f s after writes n bytes reply out =
    (after ≡ burst_to f s writes n (drop 1 bytes))
    × (out ≡ take 1 reply ++ burst_of f s writes n (drop 1 bytes) ++ drop (length bytes) reply)

-- ---- writes: buffers, one of which is filled from a place on, and the write position in it

pub record Filling : Type 0 where
  pub bytes : List ℕ
  pub position : ℕ

abbrev pub filling : List ℕ → ℕ → Filling
filling bytes position = record { bytes = bytes; position = position }

-- how many bytes the buffer takes: none while it is the chip's
abbrev pub limit_of : Bool → ℕ
limit_of busy = cond busy 0 64

-- a byte is stored at the position, which moves on; ignored at the limit
abbrev pub fill_to : ℕ → ℕ → Filling → ℕ → Filling
fill_to start limit s b =
    cond (leb limit s.position) s (filling (set s.bytes (start + s.position) b) (s.position + 1))

abbrev pub filling_spi : ℕ → ℕ → Spi Filling
filling_spi start limit = fifo_spi (fill_to start limit) (λ s. outcome s 0)

-- the bytes of a burst are stored one by one
abbrev pub stored_to : ℕ → ℕ → Filling → List ℕ → Filling
stored_to start limit s bs = burst_to (filling_spi start limit) s true 0 bs

-- as many of them as fit between the position and the limit are copied to the position at once, which moves by as many
abbrev pub copied_to : ℕ → ℕ → Filling → List ℕ → Filling
copied_to start limit s bs =
    let fits = take (limit - s.position) bs in
    filling (sets s.bytes (start + s.position) fits) (s.position + length fits)

-- ---- R0, R2 and R3 on the record: the buffers and the write position, where the buffer that is written starts, whether it is the chip's

pub record WriteFifo : Type 0 where
  pub register : ℕ
  pub start : Chip → ℕ
  pub chips : Chip → Bool
  pub state : Chip → Filling
  pub put : Chip → Filling → Chip

abbrev pub ep0fifo : WriteFifo
ep0fifo = record {
  register = 0;
  start = λ c. 0;
  chips = ep0_busy;
  state = λ c. filling c.ep0.bytes c.ep0.writepos;
  put = λ c s. set_ep0 (record {
    bytes = s.bytes;
    setup = c.ep0.setup;
    count = c.ep0.count;
    armed = c.ep0.armed;
    readpos = c.ep0.readpos;
    writepos = s.position;
    setuppos = c.ep0.setuppos;
    intoggle = c.ep0.intoggle;
    outtoggle = c.ep0.outtoggle;
    current = c.ep0.current;
  }) c;
}

-- the next buffer is a part of the flat array
abbrev pub ep2infifo : WriteFifo
ep2infifo = record {
  register = 2;
  start = λ c. next_buffer 2 c.ep2.ring * 64;
  chips = λ c. full 2 c.ep2.ring;
  state = λ c. filling c.ep2.ring.bytes c.ep2.writepos;
  put = λ c s. set_ep2 (record {
    ring = with_bytes c.ep2.ring s.bytes;
    count = c.ep2.count;
    writepos = s.position;
    toggle = c.ep2.toggle;
  }) c;
}

abbrev pub ep3infifo : WriteFifo
ep3infifo = record {
  register = 3;
  start = λ c. 0;
  chips = λ c. is_on c.ep3.armed;
  state = λ c. filling c.ep3.bytes c.ep3.writepos;
  put = λ c s. set_ep3 (record {
    bytes = s.bytes;
    count = c.ep3.count;
    armed = c.ep3.armed;
    writepos = s.position;
    toggle = c.ep3.toggle;
  }) c;
}

-- the record after the bytes of a burst, one by one, and all that fit at once
abbrev pub fifo_stored : WriteFifo → Chip → List ℕ → Chip
fifo_stored w c bs = w.put c (stored_to (w.start c) (limit_of (w.chips c)) (w.state c) bs)

abbrev pub fifo_copied : WriteFifo → Chip → List ℕ → Chip
fifo_copied w c bs = w.put c (copied_to (w.start c) (limit_of (w.chips c)) (w.state c) bs)

-- ---- reads: a packet, and the read position in it

abbrev pub packet_spi : List ℕ → Spi ℕ
packet_spi packet = fifo_spi (λ p b. p) (λ p. outcome (position_to p (length packet)) (get_or packet p 0))
