-- What the two books, ledger and watch, and the record have in common after every call, and every clause of soundness, in named
-- parts. A part is over what it speaks of alone, so a change elsewhere leaves it as it is.
use mathlib.Core.Path.{◌≡◌, sym, ◌∙◌}
use mathlib.Core.Bool.{Bool, true, false}
use mathlib.Core.List.{List, ◌++◌}
use Prim.Native.Nat.{ℕ, ◌-◌, ◌≤◌}
use native.Mathlib.Omega.{arith}
use lib.Dec.{ltb}
use lib.ListN.{length, length-append}
use Rattle.bits.specs.Bit.{has}
use Rattle.bits.proofs.Flag.{Flags}
use Rattle.ring.specs.declared.Ring.{Ring}
use Rattle.ring.specs.Ring.{queue, next_buffer, Fits}
use Rattle.ring.proofs.Laws.{queue_length}
use Rattle.chip.specs.declared.Chip.{Chip}
use Rattle.chip.specs.Mask.{in2bavirq, in3bavirq, out1davirq}
use Rattle.chip.specs.Record.{bytes_of, flags_of}
use Rattle.chip.specs.Sound.{unused_registers}
use Rattle.chip.proofs.Sound.{SoundEp0, SoundEp3, Clean, Sound}
use Rattle.rules.specs.Seen.{Connection, connection_of}
use Rattle.rules.specs.Ledger.{Ledger, Sender, Receiver, waiting_at2}
use Rattle.rules.specs.Watch.{Watch}

-- the ledger, then the watch
abbrev pub Books : Type 0
Books = Ledger × Watch

-- ---- the parts

-- an IN endpoint's BAV bit is 1 only if there is room, and exactly then unless a 1 was written to it
pub record Tells (written bav room : Bool) : Type 0 where
  pub only : bav ≡ true → room ≡ true
  pub exactly : written ≡ false → bav ≡ room

-- endpoint 2: its ring, write position w, count n, and IN2BAVIRQ, written by hand or not
pub record Sends (s : Sender) (written : Bool) (r : Ring) (w n : ℕ) (bav : Bool) : Type 0 where
  pub fits : Fits 2 r
  pub queued : s.armed ≡ s.acknowledged ++ queue 2 r
  pub bytes : s.bytes ≡ r.bytes
  pub turn : s.turn ≡ next_buffer 2 r
  pub place : s.writepos ≡ w
  pub writepos : w ≤ 64
  pub count : n ≤ 64
  pub irq : Tells written bav (ltb r.waiting 2)

-- endpoint 1: its ring, read position p, toggle and OUT1DAVIRQ
pub record Receives (s : Receiver) (r : Ring) (p toggle : ℕ) (dav : Bool) : Type 0 where
  pub fits : Fits 2 r
  pub queued : s.stored ≡ s.released ++ queue 2 r
  pub toggled : s.toggle ≡ toggle
  pub readpos : p ≤ 64
  pub irq : dav ≡ ltb 0 r.waiting

-- what decides whether the bus is seen; the watch has R15 of it
pub record Connected (l : Connection) (u : ℕ) (x : Connection) : Type 0 where
  pub ledger : l ≡ x
  pub watch : u ≡ x.usbctl

-- all of them
pub record Parts (S R C A D U F : Type 0) : Type 0 where
  pub sends : S
  pub receives : R
  pub connection : C
  pub ep0 : A
  pub ep3 : D
  pub unused : U
  pub flags : F

-- ---- of the books and a record

abbrev pub SendsOf : Books → Chip → Type 0
SendsOf l c =
    Sends l.0.sender l.1.written c.ep2.ring c.ep2.writepos c.ep2.count (has c.registers.epirq in2bavirq)

abbrev pub ReceivesOf : Books → Chip → Type 0
ReceivesOf l c = Receives l.0.receiver c.ep1.ring c.ep1.readpos c.ep1.toggle (has c.registers.epirq out1davirq)

abbrev pub Agree : Books → Chip → Type 0
Agree l c =
    Parts (SendsOf l c) (ReceivesOf l c) (Connected l.0.connection l.1.usbctl (connection_of c))
    (SoundEp0 c.ep0.count c.ep0.readpos c.ep0.writepos c.ep0.setuppos)
    (SoundEp3 c.ep3.count c.ep3.writepos c.ep3.armed (has c.registers.epirq in3bavirq))
    (Clean (bytes_of c.registers) unused_registers) (Flags (flags_of c))

-- ---- one part replaced

module _ {S R C A D U F : Type 0} (i : Parts S R C A D U F) where
  pub with_sends : {S' : Type 0} → S' → Parts S' R C A D U F
  with_sends x = record {
    sends = x;
    receives = i.receives;
    connection = i.connection;
    ep0 = i.ep0;
    ep3 = i.ep3;
    unused = i.unused;
    flags = i.flags;
  }

  pub with_receives : {R' : Type 0} → R' → Parts S R' C A D U F
  with_receives x = record {
    sends = i.sends;
    receives = x;
    connection = i.connection;
    ep0 = i.ep0;
    ep3 = i.ep3;
    unused = i.unused;
    flags = i.flags;
  }

  pub with_connection : {C' : Type 0} → C' → Parts S R C' A D U F
  with_connection x = record {
    sends = i.sends;
    receives = i.receives;
    connection = x;
    ep0 = i.ep0;
    ep3 = i.ep3;
    unused = i.unused;
    flags = i.flags;
  }

  pub with_ep0 : {A' : Type 0} → A' → Parts S R C A' D U F
  with_ep0 x = record {
    sends = i.sends;
    receives = i.receives;
    connection = i.connection;
    ep0 = x;
    ep3 = i.ep3;
    unused = i.unused;
    flags = i.flags;
  }

  pub with_ep3 : {D' : Type 0} → D' → Parts S R C A D' U F
  with_ep3 x = record {
    sends = i.sends;
    receives = i.receives;
    connection = i.connection;
    ep0 = i.ep0;
    ep3 = x;
    unused = i.unused;
    flags = i.flags;
  }

  pub with_unused : {U' : Type 0} → U' → Parts S R C A D U' F
  with_unused x = record {
    sends = i.sends;
    receives = i.receives;
    connection = i.connection;
    ep0 = i.ep0;
    ep3 = i.ep3;
    unused = x;
    flags = i.flags;
  }

  pub with_flags : {F' : Type 0} → F' → Parts S R C A D U F'
  with_flags x = record {
    sends = i.sends;
    receives = i.receives;
    connection = i.connection;
    ep0 = i.ep0;
    ep3 = i.ep3;
    unused = i.unused;
    flags = x;
  }

-- ---- consequences

waits_is : (l a q : List (List ℕ)) → l ≡ a ++ q → length l - length a ≡ length q
waits_is l a q e = rw (e, length-append) (omega arith)

-- as many wait in the ledger as in the record
pub waiting_is : (l : Books) (c : Chip) → SendsOf l c → waiting_at2 l.0.sender ≡ c.ep2.ring.waiting
waiting_is l c i = waits_is l.0.sender.armed l.0.sender.acknowledged (queue 2 c.ep2.ring) i.queued ∙ queue_length 2
    c.ep2.ring

-- a bit that is 1 exactly if there is room tells it, whatever was written
pub tells_same : {written bav room : Bool} → bav ≡ room → Tells written bav room
tells_same e = record { only = λ one. sym e ∙ one; exactly = λ _. e }

-- the bit tells as before while there is room before and after
pub tells_room : {written bav before after : Bool} → before ≡ true → after ≡ true → Tells written bav before → Tells written bav after
tells_room e f t = record { only = λ _. f; exactly = λ none. t.exactly none ∙ e ∙ sym f }

-- every clause of soundness holds
pub agree_sound : (l : Books) (c : Chip) → Agree l c → Sound c
agree_sound l c i = record {
  ep0 = i.ep0;
  ep1 = record { ring = i.receives.fits.sound; readpos = i.receives.readpos; irq = i.receives.irq };
  ep2 = record { ring = i.sends.fits.sound; count = i.sends.count; writepos = i.sends.writepos; irq = i.sends.irq.only };
  ep3 = i.ep3;
  unused = i.unused;
  flags = i.flags;
}
