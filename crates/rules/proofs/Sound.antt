-- A run keeps a sound record sound, however the record was made: some ledger agrees with it.
use mathlib.Core.Path.{◌≡◌, refl}
use mathlib.Core.Bool.{true}
use mathlib.Core.List.{List, []}
use native.Mathlib.Omega.{arith}
use lib.ListN.{length}
use denote.Laws.{Is}
use denote.Struct.Declared.{row}
use mir.Val.{Val}
use Rattle.bits.proofs.Cases.{true_is_false}
use Rattle.ring.specs.declared.Ring.{Ring}
use Rattle.ring.specs.Ring.{queue, next_buffer, sound_ring, Fits}
use Rattle.ring.specs.contracts.Ring as ring
use Rattle.chip.specs.declared.Chip.{Chip}
use Rattle.chip.specs.Sound.{sound_chip}
use Rattle.chip.specs.contracts.Chip as chip
use Rattle.chip.proofs.Sound.{Sound, sound_clauses}
use Rattle.model.specs.Call.{Call, run_to}
use Rattle.model.proofs.Keeps.{run_keeps, run_always}
use Rattle.rules.specs.Seen.{connection_of}
use Rattle.rules.specs.Event.{max3420e}
use Rattle.rules.specs.Ledger.{Ledger}
use Rattle.rules.specs.Watch.{Watch}
use Rattle.rules.proofs.Agree.{Agree}
use Rattle.rules.proofs.Lawful.{max3420e_lawful}

-- the ring's type says that there is room for two buffers; `.1 .1` of what a struct's type says is what its fields' types say
fits : (r : Ring) {vs : List Val} → Is (row ring.the_type) r vs → sound_ring 2 r ≡ true → Fits 2 r
fits r g s =
    let bytes : length r.bytes ≡ 128 = g.1.1.0.1.0.1 in
    let counts : length r.counts ≡ 2 = g.1.1.1.0.1.0.1 in
    record { room = omega arith; places = omega arith; sound = s }

-- a ledger that knows of the waiting packets only
abbrev ledger_of : Chip → Ledger
ledger_of c = record {
  sender = record {
    armed = queue 2 c.ep2.ring;
    acknowledged = [];
    bytes = c.ep2.ring.bytes;
    turn = next_buffer 2 c.ep2.ring;
    writepos = c.ep2.writepos;
  };
  receiver = record { stored = queue 2 c.ep1.ring; released = []; toggle = c.ep1.toggle };
  connection = connection_of c;
}

-- and a watch in whose run a 1 was written to IN2BAVIRQ, as in some run it was
abbrev watch_of : Chip → Watch
watch_of c = record { usbctl = c.registers.usbctl; written = true }

agrees : (c : Chip) {vs : List Val} → Is (row chip.the_type) c vs → Sound c → Agree (ledger_of c, watch_of c) c
agrees c g s = record {
  sends = record {
    fits = fits c.ep2.ring g.1.1.1.1.0.1.1.0 s.ep2.ring;
    queued = refl;
    bytes = refl;
    turn = refl;
    place = refl;
    writepos = s.ep2.writepos;
    count = s.ep2.count;
    irq = record { only = s.ep2.irq; exactly = λ e. true_is_false e };
  };
  receives = record {
    fits = fits c.ep1.ring g.1.1.1.0.1.1.0 s.ep1.ring;
    queued = refl;
    toggled = refl;
    readpos = s.ep1.readpos;
    irq = s.ep1.irq;
  };
  connection = record { ledger = refl; watch = refl };
  ep0 = s.ep0;
  ep3 = s.ep3;
  unused = s.unused;
  flags = s.flags;
}

-- what the type says of a function's parameter is its `.good`
pub stays_sound : (c : Chip) {vs : List Val} → Is (row chip.the_type) c vs → sound_chip c ≡ true → (ks : List Call)
    → sound_chip (run_to max3420e c ks) ≡ true
stays_sound c g s ks =
    max3420e_lawful.sound _ _
    (run_keeps max3420e_lawful.keeps ks (ledger_of c, watch_of c) c (run_always max3420e ks c) (agrees c g (sound_clauses c s)))
