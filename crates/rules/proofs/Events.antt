-- Each event's rule and the books' keep the agreement: events 1 to 9 and SETUP.
use mathlib.Core.Path.{◌≡◌, refl, sym, ap, ◌∙◌, subst}
use mathlib.Core.Bool.{Bool, true, false, cond, ◌&&◌}
use mathlib.Core.List.{List}
use Prim.Native.Nat.{ℕ, ◌+◌}
use native.Mathlib.Omega.{arith}
use lib.Dec.{eqb}
use borrow.Author.Tests.{eqb-true}
use Rattle.bits.specs.Bit.{has, lowered, masked}
use Rattle.bits.specs.Flag.{is_on}
use Rattle.bits.proofs.Cases.{cond_elim, cond_elim₂}
use Rattle.bits.proofs.Flag.{Flags, flags_set, off_flag}
use Rattle.bits.proofs.Mask.{has_and}
use Rattle.chip.specs.declared.Power.{Power}
use Rattle.chip.specs.declared.Chip.{Chip}
use Rattle.chip.specs.Mask.{others_than, setup_stalls, sudavirq, in0bavirq, out0davirq, chipres, oscokirq, vbusirq, novbusirq, unused_of}
use Rattle.chip.specs.Record.{bytes_of, flags_of}
use Rattle.chip.specs.Set.{set_ep0, set_power, set_epstalls, with_vbus, with_oscok}
use Rattle.chip.specs.Sound.{unused_registers}
use Rattle.chip.proofs.Sound.{clean_set, clean_set_any}
use Rattle.reset.specs.declared.Reset.TheVariants.{PowerOn, BusReset}
use Rattle.reset.specs.Reset.{chip_after}
use Rattle.model.specs.declared.Event.{Event}
use Rattle.model.specs.Reply.{Outcome, outcome, Reply, done, silence}
use Rattle.model.proofs.Keeps.{KeepsEvent}
use Rattle.rules.specs.Seen.{Connection, connection_of, seen, heard}
use Rattle.rules.specs.Control.{ep0_setup, setup_to}
use Rattle.rules.specs.Event.{EventRule, no_event, power_on_event, stable_event, vbus_on_event, vbus_off_event, pins_event}
use Rattle.rules.specs.Event.{reset_start_event, raise_usbirq, when_seen, setup_event}
use Rattle.rules.specs.Ledger.{Ledger, LedgerEvent, unnoted_event, note_power_on, note_stable, note_vbus, note_reset_start, noted_power}
use Rattle.rules.specs.Ledger.{ledger_after}
use Rattle.rules.specs.Watch.{WatchEvent, unwatched_event, watch_power_on, watch_reset_start}
use Rattle.rules.proofs.Agree.{Books, Connected, Agree, with_connection, with_ep0, with_unused, with_flags}
use Rattle.rules.proofs.Irqs.{agree_epirq, leaves_setup}
use Rattle.rules.proofs.Resets.{agree_reset}

-- a rule of the record, a rule of the ledger and a rule of the watch keep the agreement, whatever the event of code n
abbrev pub KeptBy : ℕ → EventRule → LedgerEvent → WatchEvent → Type 0
KeptBy n r k j =
    KeepsEvent Agree n (λ (c : Chip) (e : Event). false) r
    (λ (l : Books) (e : Event) (vs : List ℕ) (a : Reply). (k l.0 e vs a, j l.1 e vs a))

-- an event that does not concern the watch
abbrev pub Kept : ℕ → EventRule → LedgerEvent → Type 0
Kept n r k = KeptBy n r k unwatched_event

-- what an outcome leaves agrees
abbrev pub Left : Books → Outcome Chip Reply → Type 0
Left l o = Agree l o.state

-- ---- events 1 to 9

pub keeps_no_event : (n : ℕ) → Kept n no_event unnoted_event
keeps_no_event n l c e vs _ _ _ i = i

pub keeps_power_on : (n : ℕ) → KeptBy n power_on_event note_power_on watch_power_on
keeps_power_on n l c e vs _ _ _ i = agree_reset PowerOn l c i

-- R13 has all eight bits
raise_keeps : (l : Books) (c : Chip) (m : ℕ) → Agree l c → Agree l (raise_usbirq m c)
raise_keeps l c m i = with_unused i (clean_set_any (bytes_of c.registers) unused_registers 4 _ i.unused refl)

-- the books after what is supplied changes
abbrev supplied_to : (Power → Power) → Books → Books
supplied_to f l = (noted_power (f l.0.connection.power) l.0, l.1)

-- the ledger notes what is supplied as the record does
supplied : (l : Books) (c : Chip) (f : Power → Power) → Agree l c → Connected (supplied_to f l).0.connection l.1.usbctl
    (record { usbctl = c.registers.usbctl; power = f c.power })
supplied l c f i = record {
  ledger = ap (λ (x : Connection). record { usbctl = x.usbctl; power = f x.power }) i.connection.ledger;
  watch = i.connection.watch;
}

-- what is supplied changes, and a bit of R13 becomes 1
supplied_keeps : (l : Books) (c : Chip) (f : Power → Power) (m : ℕ) → Agree l c → Flags (flags_of (set_power (f c.power) c))
    → Agree (supplied_to f l) (raise_usbirq m (set_power (f c.power) c))
supplied_keeps l c f m i flags =
    raise_keeps (supplied_to f l) (set_power (f c.power) c) m
    (with_flags (with_connection i (supplied l c f i)) flags)

pub keeps_stable : (n : ℕ) → Kept n stable_event note_stable
keeps_stable n l c e vs _ _ _ i =
    cond_elim₂ (λ (d : Ledger). Agree (d, l.1)) (has l.0.connection.usbctl chipres) (has c.registers.usbctl chipres)
    (ap (λ (x : Connection). has x.usbctl chipres) i.connection.ledger) (λ _. i)
    (λ _. supplied_keeps l c (with_oscok 1) oscokirq i (flags_set (flags_of c) 9 1 i.flags (omega arith)))

-- VBUS that is as it was
still : (c : Chip) (x : ℕ) → c.power.vbus ≡ x → record { usbctl = c.registers.usbctl; power = with_vbus x c.power }
    ≡ connection_of c
still c x e = ap (λ (y : ℕ). record { usbctl = c.registers.usbctl; power = with_vbus y c.power }) (sym e)

pub keeps_vbus_on : (n : ℕ) → Kept n vbus_on_event (note_vbus 1)
keeps_vbus_on n l c e vs _ _ _ i =
    cond_elim (Agree (supplied_to (with_vbus 1) l)) (is_on c.power.vbus)
    (λ on. with_connection i (subst (Connected _ _) (still c 1 (eqb-true c.power.vbus 1 on)) (supplied l c (with_vbus 1) i)))
    (λ _. supplied_keeps l c (with_vbus 1) vbusirq i (flags_set (flags_of c) 8 1 i.flags (omega arith)))

pub keeps_vbus_off : (n : ℕ) → Kept n vbus_off_event (note_vbus 0)
keeps_vbus_off n l c e vs _ _ _ i =
    cond_elim (Agree (supplied_to (with_vbus 0) l)) (is_on c.power.vbus)
    (λ _. supplied_keeps l c (with_vbus 0) novbusirq i (flags_set (flags_of c) 8 0 i.flags (omega arith)))
    (λ off. with_connection i
    (subst (Connected _ _) (still c 0 (off_flag c.power.vbus (i.flags.each 8) off)) (supplied l c (with_vbus 0) i)))

pub keeps_pins : (n : ℕ) → Kept n pins_event unnoted_event
keeps_pins n l c e vs _ _ _ i = with_unused i (clean_set_any (bytes_of c.registers) unused_registers 11 _ i.unused refl)

-- the ledger tests the connection as the record does, and the watch reads the reply
abbrev Started : Books → Event → List ℕ → Bool → Outcome Chip Reply → Type 0
Started l e vs s o = Agree (cond s (ledger_after BusReset l.0) l.0, watch_reset_start l.1 e vs o.gives) o.state

reset_start_keeps : (l : Books) (c : Chip) (e : Event) (vs : List ℕ) (s t : Bool) → s ≡ t → Agree l c
    → Started l e vs s (cond t (outcome (chip_after BusReset c) done) (outcome c silence))
reset_start_keeps l c e vs s true same i = rw same (agree_reset BusReset l c i)
reset_start_keeps l c e vs s false same i = rw same i

pub keeps_reset_start : (n : ℕ) → KeptBy n reset_start_event note_reset_start watch_reset_start
keeps_reset_start n l c e vs _ _ _ i =
    reset_start_keeps l c e vs (seen l.0.connection) (seen (connection_of c)) (ap seen i.connection.ledger) i

-- bus reset end, suspend, activity: a bit of R13
pub keeps_raises : (m n : ℕ) → Kept n (when_seen (raise_usbirq m)) unnoted_event
keeps_raises m n l c e vs _ _ _ i = cond_elim (Left l) (seen (connection_of c)) (λ _. raise_keeps l c m i) (λ _. i)

-- ---- SETUP

setup_keeps : (l : Books) (c : Chip) (vs : List ℕ) → Agree l c → Agree l (setup_to c vs)
setup_keeps l c vs i =
    let x : ℕ = c.registers.epstalls in
    agree_epirq l (set_epstalls (lowered setup_stalls x) (set_ep0 (ep0_setup c.ep0 vs) c))
    (masked (others_than out0davirq) (sudavirq + in0bavirq) c.registers.epirq) (leaves_setup c.registers.epirq)
    (with_flags
    (with_unused
    (with_ep0 i (record { count = i.ep0.count; readpos = omega arith; writepos = omega arith; setuppos = omega arith }))
    (clean_set (bytes_of c.registers) unused_registers 0 (lowered setup_stalls x) i.unused
    (has_and x (others_than setup_stalls) (unused_of 9) ∙ i.unused 0)))
    (flags_set _ 3 1 (flags_set _ 2 1 (flags_set _ 1 1 (flags_set (flags_of c) 0 0 i.flags (omega arith)) (omega arith)) (omega arith))
    (omega arith)))

pub keeps_setup : (n : ℕ) → Kept n setup_event unnoted_event
keeps_setup n l c e vs _ _ _ i =
    cond_elim (Left l) (heard c e.damaged e.address && eqb e.endpoint.0 0) (λ _. setup_keeps l c vs i) (λ _. i)
