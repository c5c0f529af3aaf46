-- A read moves a position at most, and keeps the agreement.
use Prim.Native.Nat.{ℕ, ◌<◌}
use native.Mathlib.Omega.{arith}
use lib.Dec.{ltb}
use borrow.Author.Tests.{ltb-true}
use Rattle.bits.proofs.Cases.{cond_elim}
use Rattle.ring.specs.Ring.{oldest_count}
use Rattle.ring.proofs.Laws.{oldest_small}
use Rattle.chip.specs.declared.Chip.{Chip}
use Rattle.model.specs.Reply.{Outcome}
use Rattle.model.proofs.Keeps.{KeepsRead}
use Rattle.rules.specs.Read.{ReadRule, read_ep0fifo, read_ep1outfifo, read_sudfifo, read_nothing, read_control}
use Rattle.rules.proofs.Agree.{Books, Agree, with_receives, with_ep0}

abbrev pub Kept : ReadRule → Type 0
Kept r = KeepsRead Agree r

abbrev After : Books → Outcome Chip ℕ → Type 0
After l o = Agree l o.state

pub keeps_ep0fifo : Kept read_ep0fifo
keeps_ep0fifo l c i =
    cond_elim (After l) (ltb c.ep0.readpos c.ep0.count)
    (λ left.
    let below : c.ep0.readpos < c.ep0.count = ltb-true c.ep0.readpos c.ep0.count left in
    with_ep0 i (record {
      count = i.ep0.count;
      readpos = omega (arith, i.ep0.count);
      writepos = i.ep0.writepos;
      setuppos =
          i.ep0.setuppos;
    }))
    (λ _. i)

pub keeps_ep1outfifo : Kept read_ep1outfifo
keeps_ep1outfifo l c i =
    cond_elim (After l) (ltb c.ep1.readpos (oldest_count 2 c.ep1.ring))
    (λ left.
    let below : c.ep1.readpos < oldest_count 2 c.ep1.ring = ltb-true c.ep1.readpos (oldest_count 2 c.ep1.ring) left in
    with_receives i (record {
      fits = i.receives.fits;
      queued = i.receives.queued;
      toggled = i.receives.toggled;
      readpos = omega (arith, oldest_small 2 c.ep1.ring i.receives.fits.sound);
      irq = i.receives.irq;
    }))
    (λ _. i)

pub keeps_sudfifo : Kept read_sudfifo
keeps_sudfifo l c i =
    cond_elim (After l) (ltb c.ep0.setuppos 8)
    (λ left.
    let below : c.ep0.setuppos < 8 = ltb-true c.ep0.setuppos 8 left in
    with_ep0 i (record { count = i.ep0.count; readpos = i.ep0.readpos; writepos = i.ep0.writepos; setuppos = omega arith }))
    (λ _. i)

-- no other read moves anything
pub keeps_nothing : Kept read_nothing
keeps_nothing l c i = i

pub keeps_control : (n : ℕ) → Kept (read_control n)
keeps_control n l c i = i
