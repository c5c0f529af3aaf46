-- The SPI side of a chip over any state: one register, then a transfer byte by byte (document 01, "The SPI side"; 000, "Accessing
-- the MAX3420E Registers").
use Rattle.std.specs.Prelude.{Bool, cond, List, [], ◌∷◌, ℕ, ◌/◌}
use Rattle.bits.specs.Bit.{has}
use Rattle.model.specs.Reply.{Outcome}

pub record Spi (R : Type 0) : Type 0 where
  -- a byte is written to register n
  pub write : ℕ → R → ℕ → R
  -- register n is read: what the read moves, and the byte
  pub read : ℕ → R → Outcome R ℕ
  -- the register that is selected after register n, at each data byte
  pub step : ℕ → ℕ
  -- what bit 0 of the command byte does
  pub acknowledge : R → R
  -- reply byte 0
  pub status : R → ℕ

-- ---- the command byte: bits 7..3 register, bit 2 ignored (h), bit 1 write, bit 0 sets ACKSTAT whatever the register

abbrev pub command_register : ℕ → ℕ
command_register m = m / 8

abbrev pub command_writes : ℕ → Bool
command_writes m = has m 0x02

abbrev pub command_acknowledges : ℕ → Bool
command_acknowledges m = has m 0x01

-- ---- one register

module _ {R : Type 0} (f : Spi R) where
  -- the state after a byte is written to register n
  abbrev pub write_to : R → ℕ → ℕ → R
  write_to c n b = f.write n c b

  -- the state after register n is read, and the byte that is read
  abbrev pub read_to : R → ℕ → R
  read_to c n = (f.read n c).state

  abbrev pub read_of : R → ℕ → ℕ
  read_of c n = (f.read n c).gives

  -- ---- the data bytes, from register n on; they act one at a time, and a write's reply bytes are 0

  abbrev pub byte_to : R → Bool → ℕ → ℕ → R
  byte_to c writes n b = cond writes (write_to c n b) (read_to c n)

  abbrev pub byte_of : R → Bool → ℕ → ℕ
  byte_of c writes n = cond writes 0 (read_of c n)

  unfoldable pub burst_to : R → Bool → ℕ → List ℕ → R
  burst_to c writes n [] = c
  burst_to c writes n (b ∷ bs) = burst_to (byte_to c writes n b) writes (f.step n) bs

  unfoldable pub burst_of : R → Bool → ℕ → List ℕ → List ℕ
  burst_of c writes n [] = []
  burst_of c writes n (b ∷ bs) = byte_of c writes n ∷ burst_of (byte_to c writes n b) writes (f.step n) bs

  -- ---- a transfer: the command byte, then the data bytes; the reply is as long as the transfer

  abbrev pub command_to : R → ℕ → R
  command_to c m = cond (command_acknowledges m) (f.acknowledge c) c

  abbrev pub transfer_to : R → List ℕ → R
  transfer_to c [] = c
  transfer_to c (m ∷ bs) = burst_to (command_to c m) (command_writes m) (command_register m) bs

  -- reply byte 0 shows the state before the transfer
  abbrev pub transfer_of : R → List ℕ → List ℕ
  transfer_of c [] = []
  transfer_of c (m ∷ bs) = f.status c ∷ burst_of (command_to c m) (command_writes m) (command_register m) bs
