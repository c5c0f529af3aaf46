-- R11 and the other registers that soundness speaks of: which updates keep the agreement.
use mathlib.Core.Path.{◌≡◌, refl, ap, ◌∙◌}
use mathlib.Core.Bool.{Bool, true, false, ◌||◌}
use Prim.Native.Nat.{ℕ, ◌+◌, ◌<◌}
use native.Mathlib.Omega.{arith}
use native.Mathlib.Nat.{lt_of_le_of_lt}
use lib.Bits.{bit_and, and_le_r}
use Rattle.bits.specs.Bit.{has, raised, lowered, masked}
use Rattle.bits.proofs.Cases.{or_false}
use Rattle.bits.proofs.Mask.{has_and, has_and_none, has_or, has_masked, has_lowered_apart, has_and_was}
use Rattle.chip.specs.declared.Chip.{Chip}
use Rattle.chip.specs.Mask.{others_than, in2bavirq, in3bavirq, out1davirq, in0bavirq, out0davirq, sudavirq, cleared_epirqs, unused_of}
use Rattle.chip.specs.Record.{bytes_of}
use Rattle.chip.specs.Set.{set_epirq}
use Rattle.chip.specs.Sound.{unused_registers}
use Rattle.chip.proofs.Sound.{Clean, clean_set}
use Rattle.rules.specs.Write.{lower_epirq}
use Rattle.rules.specs.Watch.{watch_epirq}
use Rattle.rules.proofs.Agree.{Books, Tells, Agree}

-- the buffer bits of endpoints 1, 2 and 3, and the unused bits, are the same in y as in x
pub record Leaves (x y : ℕ) : Type 0 where
  pub in2 : has y in2bavirq ≡ has x in2bavirq
  pub out1 : has y out1davirq ≡ has x out1davirq
  pub in3 : has y in3bavirq ≡ has x in3bavirq
  pub unused : has y (unused_of 11) ≡ has x (unused_of 11)

-- R11 is another number, without unused bits
pub clean_epirq : (c : Chip) (y : ℕ) → has y (unused_of 11) ≡ has c.registers.epirq (unused_of 11) → Clean
    (bytes_of c.registers) unused_registers
    → Clean (bytes_of (set_epirq y c).registers) unused_registers
clean_epirq c y e h = clean_set (bytes_of c.registers) unused_registers 2 y h (e ∙ h 2)

-- such an update keeps the agreement
pub agree_epirq : (l : Books) (c : Chip) (y : ℕ) → Leaves c.registers.epirq y → Agree l c → Agree l (set_epirq y c)
agree_epirq l c y h i = record {
  sends = rw h.in2 i.sends;
  receives = rw h.out1 i.receives;
  connection = i.connection;
  ep0 = i.ep0;
  ep3 = rw h.in3 i.ep3;
  unused = clean_epirq c y h.unused i.unused;
  flags = i.flags;
}

-- ---- updates that leave those bits

-- IN0BAVIRQ is cleared
pub leaves_in0 : (x : ℕ) → Leaves x (lowered in0bavirq x)
leaves_in0 x = record { in2 = apart in2bavirq; out1 = apart out1davirq; in3 = apart in3bavirq; unused = apart (unused_of 11) }
  where
    apart : (p : ℕ) → has (lowered in0bavirq x) p ≡ has x (bit_and (others_than in0bavirq) p)
    apart p = has_and x (others_than in0bavirq) p

-- a bit apart from them becomes 1; the last four arguments are refl at a numeral
pub leaves_raised : (m x : ℕ) → has m in2bavirq ≡ false → has m out1davirq ≡ false → has m in3bavirq ≡ false → has m (unused_of 11) ≡ false
    → Leaves x (raised m x)
leaves_raised m x p q r s = record {
  in2 = still in2bavirq p;
  out1 = still out1davirq q;
  in3 = still in3bavirq r;
  unused = still
      (unused_of 11) s;
}
  where
    still : (k : ℕ) → has m k ≡ false → has (raised m x) k ≡ has x k
    still k n = has_or x m k ∙ ap (λ (t : Bool). t || has x k) n

-- a SETUP: OUT0DAVIRQ is cleared, SUDAVIRQ and IN0BAVIRQ become 1
pub leaves_setup : (x : ℕ) → Leaves x (masked (others_than out0davirq) (sudavirq + in0bavirq) x)
leaves_setup x = record { in2 = still in2bavirq; out1 = still out1davirq; in3 = still in3bavirq; unused = still (unused_of 11) }
  where
    still : (p : ℕ) → has (masked (others_than out0davirq) (sudavirq + in0bavirq) x) p ≡
        (has (sudavirq + in0bavirq) p || has x (bit_and (others_than out0davirq) p))
    still p = has_masked (others_than out0davirq) (sudavirq + in0bavirq) x p

-- ---- R11: a 1 of b clears all but OUT1DAVIRQ, so IN2BAVIRQ and IN3BAVIRQ are 1 only where they were, and the watch notes the 1

module _ (b x : ℕ) where
  abbrev after : ℕ
  after = lowered (bit_and b cleared_epirqs) x

  stays : (p : ℕ) → p < 256 → has (bit_and b cleared_epirqs) p ≡ false → has after p ≡ has x p
  stays p hp apart = has_lowered_apart (bit_and b cleared_epirqs) x p (lt_of_le_of_lt (and_le_r b cleared_epirqs) (omega arith)) hp apart

  was : (p : ℕ) → has after p ≡ true → has x p ≡ true
  was p one = has_and_was x (others_than (bit_and b cleared_epirqs)) p one

  tells_cleared : {written room : Bool} → Tells written (has x in2bavirq) room → Tells (has b in2bavirq || written) (has after in2bavirq) room
  tells_cleared {written} t = record {
    only = λ one. t.only (was in2bavirq one);
    exactly = λ none.
        let both = or_false (has b in2bavirq) written none in
        stays in2bavirq (omega arith) (has_and b cleared_epirqs in2bavirq ∙ both.0) ∙ t.exactly both.1;
  }

pub agree_cleared : (l : Books) (c : Chip) (b : ℕ) → Agree l c → Agree (l.0, watch_epirq l.1 b)
    (lower_epirq (bit_and b cleared_epirqs) c)
agree_cleared l c b i =
    let x : ℕ = c.registers.epirq in
    record {
      sends = record {
        fits = i.sends.fits;
        queued = i.sends.queued;
        bytes = i.sends.bytes;
        turn = i.sends.turn;
        place = i.sends.place;
        writepos = i.sends.writepos;
        count = i.sends.count;
        irq = tells_cleared b x i.sends.irq;
      };
      receives = rw (stays b x out1davirq (omega arith) (has_and_none b cleared_epirqs out1davirq refl)) i.receives;
      connection = i.connection;
      ep0 = i.ep0;
      ep3 = record { count = i.ep3.count; writepos = i.ep3.writepos; irq = λ one. i.ep3.irq (was b x in3bavirq one) };
      unused = clean_epirq c (after b x) (stays b x (unused_of 11) (omega arith) (has_and_none b cleared_epirqs (unused_of 11) refl)) i.unused;
      flags = i.flags;
    }
