-- What a chip must show for demand 3, over any state that holds a MAX3420E's record; and that the MAX3420E shows it, row by row.
use mathlib.Core.Path.{◌≡◌, refl, sym, ◌∙◌, subst}
use mathlib.Core.Bool.{true}
use mathlib.Core.List.{map}
use Prim.Native.Nat.{ℕ, ◌≤◌}
use native.Mathlib.Omega.{arith}
use lib.ListN.{length, get_or-eq_default}
use Rattle.bits.proofs.First.{Each, none}
use Rattle.bits.proofs.Mask.{has_or}
use Rattle.bits.proofs.Rows.{Rows, rows_all, none as end, ◌⨾◌}
use Rattle.ring.specs.Ring.{empty_ring}
use Rattle.ring.proofs.Laws.{fits_drained}
use Rattle.refusal.specs.Check.{ground}
use Rattle.chip.specs.declared.Chip.{Chip}
use Rattle.chip.specs.Mask.{ackstat, uresdnirq, suspirq, busactirq, unused_of}
use Rattle.chip.specs.Record.{bytes_of, power_on_chip}
use Rattle.chip.specs.Sound.{unused_registers}
use Rattle.chip.proofs.Sound.{clean_set, sound_clauses, clauses_sound}
use Rattle.reset.proofs.Effects.{power_on_sound}
use Rattle.model.specs.Call.{Call, Model}
use Rattle.model.specs.Book.{Book}
use Rattle.model.specs.Condition.{always}
use Rattle.model.proofs.Refusals.{NotUnsound}
use Rattle.model.proofs.Keeps.{Keeps, KeepsRead}
use Rattle.model.proofs.Books.{both}
use Rattle.rules.specs.Write.{WriteRule, write_rules, ignored}
use Rattle.rules.specs.Read.{ReadRule, fifo_reads, read_control, read_rule}
use Rattle.rules.specs.Spi.{set_ackstat}
use Rattle.rules.specs.Event.{EventRule, event_rules, no_event, max3420e}
use Rattle.rules.specs.Ledger.{Ledger, LedgerWrite, LedgerEvent, blank, ledger_writes, unnoted_write, ledger_events, unnoted_event}
use Rattle.rules.specs.Ledger.{max3420e_ledger}
use Rattle.rules.specs.Watch.{Watch, WatchWrite, WatchEvent, unwritten, watch_writes, unwatched_write, watch_events}
use Rattle.rules.specs.Watch.{unwatched_event, max3420e_watch}
use Rattle.rules.proofs.Agree.{Books, Agree, agree_sound, with_unused, tells_same}
use Rattle.rules.proofs.Writes as writes
use Rattle.rules.proofs.Writes.{keeps_ignored, keeps_ep0fifo, keeps_ep2fifo, keeps_ep3fifo, keeps_ep0bc, keeps_ep2bc}
use Rattle.rules.proofs.Writes.{keeps_ep3bc, keeps_epstalls, keeps_clrtogs, keeps_epirq, keeps_epien, keeps_usbirq}
use Rattle.rules.proofs.Writes.{keeps_usbien, keeps_usbctl, keeps_cpuctl, keeps_pinctl, keeps_iopins}
use Rattle.rules.proofs.Reading as reading
use Rattle.rules.proofs.Events as events
use Rattle.rules.proofs.Events.{keeps_no_event, keeps_power_on, keeps_stable, keeps_vbus_on, keeps_vbus_off, keeps_pins}
use Rattle.rules.proofs.Events.{keeps_reset_start, keeps_raises, keeps_setup}
use Rattle.rules.proofs.Outs.{keeps_out}
use Rattle.rules.proofs.Ins.{keeps_in}

-- what holds of the books and a state after every call
abbrev pub Invariant : Type 0 → Type 1
Invariant R = Books → R → Type 0

-- with an invariant I of its own, under which its MAX3420E part agrees with ledger p and watch q
pub record Lawful {R : Type 0} (core : R → Chip) (I : Invariant R) (m : Model R) (p : Book Ledger) (q : Book Watch) : Type 0 where
  pub alike : (n : ℕ) → p.step n ≡ q.step n
  pub keeps : Keeps m (both p q) always I
  pub starts : I (blank, unwritten) m.start
  pub agrees : (l : Books) (c : R) → I l c → Agree l (core c)
  pub sound : (l : Books) (c : R) → I l c → m.sound c ≡ true
  pub further : (c : R) (k : Call) → Each NotUnsound (map ground (m.further c k))

-- ---- the rows of the MAX3420E

abbrev WriteRow : ℕ → Type 0
WriteRow n = writes.KeptBy (max3420e.spi.write n) (max3420e_ledger.write n) (max3420e_watch.write n)

-- R0 to R20
write_rows : Rows WriteRow 0 (length write_rules)
write_rows =
    keeps_ep0fifo ⨾ keeps_ignored ⨾ keeps_ep2fifo ⨾ keeps_ep3fifo ⨾ keeps_ignored ⨾
    keeps_ep0bc ⨾ keeps_ignored ⨾ keeps_ep2bc ⨾ keeps_ep3bc ⨾ keeps_epstalls ⨾
    keeps_clrtogs ⨾ keeps_epirq ⨾ keeps_epien ⨾ keeps_usbirq ⨾ keeps_usbien ⨾
    keeps_usbctl ⨾ keeps_cpuctl ⨾ keeps_pinctl ⨾ keeps_ignored ⨾ keeps_ignored ⨾ keeps_iopins ⨾ end

-- past the table nothing is written and nothing noted
past_writes : (n : ℕ) → length write_rules ≤ n → WriteRow n
past_writes n h =
    subst (λ (f : WriteRule). writes.KeptBy f (max3420e_ledger.write n) (max3420e_watch.write n))
    (sym (get_or-eq_default write_rules ignored h))
    (subst (λ (k : LedgerWrite). writes.KeptBy ignored k (max3420e_watch.write n))
    (sym (get_or-eq_default ledger_writes unnoted_write {n = n} (omega arith)))
    (subst (λ (j : WatchWrite). writes.KeptBy ignored unnoted_write j)
    (sym (get_or-eq_default watch_writes unwatched_write {n = n} (omega arith))) keeps_ignored))

abbrev ReadRow : ℕ → Type 0
ReadRow n = KeepsRead Agree (read_rule n)

-- R0 to R4
read_rows : Rows ReadRow 0 5
read_rows = reading.keeps_ep0fifo ⨾ reading.keeps_ep1outfifo ⨾ reading.keeps_nothing ⨾ reading.keeps_nothing ⨾ reading.keeps_sudfifo ⨾ end

past_reads : (n : ℕ) → 5 ≤ n → ReadRow n
past_reads n h =
    subst (λ (r : ReadRule). KeepsRead Agree r) (sym (get_or-eq_default fifo_reads (read_control n) h)) (reading.keeps_control n)

abbrev EventRow : ℕ → Type 0
EventRow n = events.KeptBy n (max3420e.bus n) (max3420e_ledger.event n) (max3420e_watch.event n)

-- codes 0 to 12
event_rows : Rows EventRow 0 (length event_rules)
event_rows =
    keeps_no_event 0 ⨾ keeps_power_on 1 ⨾ keeps_stable 2 ⨾ keeps_vbus_on 3 ⨾ keeps_vbus_off 4 ⨾ keeps_pins 5 ⨾ keeps_reset_start 6 ⨾
    keeps_raises uresdnirq 7 ⨾ keeps_raises suspirq 8 ⨾ keeps_raises busactirq 9 ⨾ keeps_setup 10 ⨾ keeps_out ⨾ keeps_in 12 ⨾ end

past_events : (n : ℕ) → length event_rules ≤ n → EventRow n
past_events n h =
    subst (λ (r : EventRule). events.KeptBy n r (max3420e_ledger.event n) (max3420e_watch.event n))
    (sym (get_or-eq_default event_rules no_event h))
    (subst (λ (k : LedgerEvent). events.KeptBy n no_event k (max3420e_watch.event n))
    (sym (get_or-eq_default ledger_events unnoted_event h))
    (subst (λ (j : WatchEvent). events.KeptBy n no_event unnoted_event j)
    (sym (get_or-eq_default watch_events unwatched_event {n = n} (omega arith))) (keeps_no_event n)))

-- the command byte may set ACKSTAT
ackstat_keeps : (l : Books) (c : Chip) → Agree l c → Agree l (set_ackstat c)
ackstat_keeps l c i =
    with_unused i (clean_set (bytes_of c.registers) unused_registers 0 _ i.unused
    (has_or c.registers.epstalls ackstat (unused_of 9) ∙ i.unused 0))

starts : Agree (blank, unwritten) power_on_chip
unfolding power_on_chip
starts =
    let fits = fits_drained empty_ring empty_ring.bytes (omega arith) in
    let clauses = sound_clauses power_on_chip power_on_sound in
    record {
      sends = record {
        fits = fits;
        queued = refl;
        bytes = refl;
        turn = refl;
        place = refl;
        writepos = omega arith;
        count = omega arith;
        irq = tells_same refl;
      };
      receives = record { fits = fits; queued = refl; toggled = refl; readpos = omega arith; irq = refl };
      connection = record { ledger = refl; watch = refl };
      ep0 = clauses.ep0;
      ep3 = clauses.ep3;
      unused = clauses.unused;
      flags = clauses.flags;
    }

pub max3420e_lawful : Lawful (λ c. c) Agree max3420e max3420e_ledger max3420e_watch
max3420e_lawful = record {
  alike = λ n. refl;
  keeps = record {
    writes = rows_all WriteRow (length write_rules) write_rows past_writes;
    reads = rows_all ReadRow 5 read_rows past_reads;
    steps = λ n. refl;
    acknowledges = ackstat_keeps;
    events = rows_all EventRow (length event_rules) event_rows past_events;
  };
  starts = starts;
  agrees = λ l c i. i;
  sound = λ l c i. clauses_sound c (agree_sound l c i);
  further = λ c k. none;
}
