-- What demand 3 claims of a ledger, a watch and a record; and of a history, which both are read off, and a record.
use Rattle.std.specs.Prelude.{◌≡◌, ◌↔◌, false, List, ◌++◌, ℕ, ◌≤◌, ◌<◌, length}
use Rattle.bits.specs.Bit.{bit}
use Rattle.ring.specs.Ring.{queue}
use Rattle.chip.specs.declared.Chip.{Chip}
use Rattle.chip.specs.Record.{control_register}
use Rattle.model.specs.Call.{Entry}
use Rattle.model.specs.Book.{book_of}
use Rattle.rules.specs.Ledger.{Ledger, blank, max3420e_ledger}
use Rattle.rules.specs.Watch.{Watch, unwritten, max3420e_watch}

-- the packets that wait in the record, oldest first
abbrev pub waiting1 : Chip → List (List ℕ)
waiting1 c = queue 2 c.ep1.ring

abbrev pub waiting2 : Chip → List (List ℕ)
waiting2 c = queue 2 c.ep2.ring

pub record Demand3 (l : Ledger) (w : Watch) (c : Chip) : Type 0 where
  pub sent : l.sender.armed ≡ l.sender.acknowledged ++ waiting2 c
  pub received : l.receiver.stored ≡ l.receiver.released ++ waiting1 c
  pub most2 : length (waiting2 c) ≤ 2
  pub most1 : length (waiting1 c) ≤ 2
  -- IN2BAVIRQ and OUT1DAVIRQ, bits 3 and 2 of R11, as it reads
  pub in2bavirq : bit (control_register c 11) 3 ≡ 1 → length (waiting2 c) < 2
  pub out1davirq : bit (control_register c 11) 2 ≡ 1 ↔ 0 < length (waiting1 c)
  -- and exactly, where no 1 was written to IN2BAVIRQ since the start or the last reset that reached the endpoints (Ask 2)
  pub in2exactly : w.written ≡ false → (bit (control_register c 11) 3 ≡ 1 ↔ length (waiting2 c) < 2)

-- the history is the MAX3420E's, from power-on
abbrev pub Demand3Of : List Entry → Chip → Type 0
Demand3Of es c = Demand3 (book_of max3420e_ledger blank es) (book_of max3420e_watch unwritten es) c
