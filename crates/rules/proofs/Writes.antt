-- Each register's write rule and the books' keep the agreement: one lemma for each register that the agreement speaks of.
use mathlib.Core.Path.{◌≡◌, refl, sym, ap, ◌∙◌}
use mathlib.Core.Bool.{Bool, true, false, cond}
use mathlib.Core.List.{List, [], ◌∷◌, ◌++◌, append_assoc}
use Prim.Native.Nat.{ℕ, ◌+◌, ◌≤◌, ◌<◌}
use native.Mathlib.Decide.{dec_lt}
use native.Mathlib.Omega.{arith}
use lib.Bits.{bit_and}
use lib.Dec.{ltb, leb}
use lib.ListN.{length, take, drop}
use lib.Seq.{drop-append_seam}
use borrow.Author.Tests.{leb-true, leb-false, ltb-false, lt-ltb, le-ltb}
use Rattle.bits.specs.Bit.{has, lowered, stored, rises}
use Rattle.bits.specs.Flag.{is_on}
use Rattle.bits.proofs.Cases.{cond_elim, cond_elim₂, true_is_false}
use Rattle.bits.proofs.First.{unless_elim, unless_elim₂}
use Rattle.bits.proofs.Flag.{flags_set, cleared_flag}
use Rattle.bits.proofs.Mask.{has_and, has_and_none, has_stored_same, has_stored_other}
use Rattle.ring.specs.declared.Ring.{Ring}
use Rattle.ring.specs.Ring.{queue, full, next_buffer, packet, oldest_packet, arm_next, release_oldest}
use Rattle.ring.proofs.Laws.{release_none, queue_none, fits_store, queue_store, fits_arm, queue_arm, next_arm, fits_release, queue_release}
use Rattle.chip.specs.declared.Chip.{Chip}
use Rattle.chip.specs.Mask.{others_than, count_bits, epstalls_bits, disable_bits, ctgep1out, ctgep2in, ctgep3in, in0bavirq}
use Rattle.chip.specs.Mask.{in2bavirq, in3bavirq, out1davirq}
use Rattle.chip.specs.Mask.{cleared_epirqs, epien_bits, usbctl_bits, chipres, ie, unused_of}
use Rattle.chip.specs.Record.{bytes_of, flags_of}
use Rattle.chip.specs.Set.{set_ep0, set_ep2, set_ep3, set_usbctl}
use Rattle.chip.specs.Sound.{unused_registers}
use Rattle.chip.proofs.Sound.{clean_set, clean_set_any}
use Rattle.reset.specs.declared.Reset.TheVariants.{ChipReset}
use Rattle.reset.specs.Reset.{chip_after}
use Rattle.model.proofs.Keeps.{KeepsWrite}
use Rattle.rules.specs.Write.{WriteRule, lower_epirq, ep0_busy, ep0_armed, ep2_stored, ep2_armed, in2bav_cleared}
use Rattle.rules.specs.Write.{ep3_armed, ignored, write_ep0fifo, write_ep2infifo, write_ep3infifo, write_ep0bc}
use Rattle.rules.specs.Write.{write_ep2inbc, write_ep3inbc, write_epstalls, toggle_cleared, write_clrtogs, release, write_epirq, write_epien}
use Rattle.rules.specs.Write.{write_usbirq, write_usbien, write_usbctl, write_cpuctl, write_pinctl, write_iopins}
use Rattle.rules.specs.Seen.{Connection}
use Rattle.rules.specs.Ledger.{Ledger, LedgerWrite, unnoted_write, waiting_at2, sender_stored, sender_armed, note_ep2infifo}
use Rattle.rules.specs.Ledger.{note_ep2inbc, note_clrtogs, oldest_kept, receiver_released, note_epirq, note_usbctl}
use Rattle.rules.specs.Ledger.{noted_usbctl, ledger_after, set_sender, set_receiver}
use Rattle.rules.specs.Watch.{Watch, WatchWrite, unwatched_write, watch_after, watch_epirq, watch_usbctl}
use Rattle.rules.proofs.Agree.{Books, Tells, Sends, SendsOf, Agree, waiting_is, tells_same, tells_room}
use Rattle.rules.proofs.Agree.{with_sends, with_receives, with_connection, with_ep0}
use Rattle.rules.proofs.Agree.{with_ep3, with_unused, with_flags}
use Rattle.rules.proofs.Irqs.{clean_epirq, agree_epirq, leaves_in0, agree_cleared}
use Rattle.rules.proofs.Resets.{agree_reset}

-- a rule of the record, a rule of the ledger and a rule of the watch keep the agreement, whatever is written
abbrev pub KeptBy : WriteRule → LedgerWrite → WatchWrite → Type 0
KeptBy h k j = KeepsWrite Agree (λ (c : Chip) (b : ℕ). false) h (λ (l : Books) (b : ℕ). (k l.0 b, j l.1 b))

-- a register that does not concern the watch
abbrev pub Kept : WriteRule → LedgerWrite → Type 0
Kept h k = KeptBy h k unwatched_write

pub keeps_ignored : Kept ignored unnoted_write
keeps_ignored l c b _ i = i

-- ---- stored bits: the unused ones are not among them; place n is register n + 9

pub keeps_epstalls : Kept write_epstalls unnoted_write
keeps_epstalls l c b _ i =
    with_unused i (clean_set (bytes_of c.registers) unused_registers 0 (bit_and b epstalls_bits) i.unused
    (has_and_none b epstalls_bits (unused_of 9) refl))

pub keeps_epien : Kept write_epien unnoted_write
keeps_epien l c b _ i =
    with_unused i (clean_set (bytes_of c.registers) unused_registers 3 (bit_and b epien_bits) i.unused
    (has_and_none b epien_bits (unused_of 12) refl))

pub keeps_usbirq : Kept write_usbirq unnoted_write
keeps_usbirq l c b _ i = with_unused i (clean_set_any (bytes_of c.registers) unused_registers 4 _ i.unused refl)

pub keeps_usbien : Kept write_usbien unnoted_write
keeps_usbien l c b _ i = with_unused i (clean_set_any (bytes_of c.registers) unused_registers 5 _ i.unused refl)

pub keeps_cpuctl : Kept write_cpuctl unnoted_write
keeps_cpuctl l c b _ i =
    with_unused i (clean_set (bytes_of c.registers) unused_registers 7 (bit_and b ie) i.unused (has_and_none b ie (unused_of 16) refl))

pub keeps_pinctl : Kept write_pinctl unnoted_write
keeps_pinctl l c b _ i = with_unused i (clean_set_any (bytes_of c.registers) unused_registers 8 _ i.unused refl)

pub keeps_iopins : Kept write_iopins unnoted_write
keeps_iopins l c b _ i = with_unused i (clean_set_any (bytes_of c.registers) unused_registers 11 _ i.unused refl)

-- R10: the ledger's toggle goes with endpoint 1's
pub keeps_clrtogs : Kept write_clrtogs note_clrtogs
keeps_clrtogs l c b _ i =
    let cleared : (m x : ℕ) → x ≤ 1 → toggle_cleared m b x ≤ 1 = λ m x h. cleared_flag (has b m) x h in
    let after1 = flags_set (flags_of c) 4 _ i.flags (cleared ctgep1out c.ep1.toggle (i.flags.each 4)) in
    let after2 = flags_set _ 5 _ after1 (cleared ctgep2in c.ep2.toggle (i.flags.each 5)) in
    let after3 = flags_set _ 7 _ after2 (cleared ctgep3in c.ep3.toggle (i.flags.each 7)) in
    with_flags
    (with_unused
    (with_receives i (record {
      fits = i.receives.fits;
      queued = i.receives.queued;
      toggled = ap (toggle_cleared ctgep1out b) i.receives.toggled;
      readpos = i.receives.readpos;
      irq = i.receives.irq;
    }))
    (clean_set (bytes_of c.registers) unused_registers 1 (bit_and b disable_bits) i.unused
    (has_and_none b disable_bits (unused_of 10) refl)))
    after3

-- ---- endpoint 0

pub keeps_ep0fifo : Kept write_ep0fifo unnoted_write
keeps_ep0fifo l c b _ i =
    unless_elim (Agree l) (leb 64 c.ep0.writepos ∷ ep0_busy c ∷ []) i
    (λ free.
    let below : c.ep0.writepos < 64 = leb-false 64 c.ep0.writepos (free 0) in
    with_ep0 i (record { count = i.ep0.count; readpos = i.ep0.readpos; writepos = omega arith; setuppos = i.ep0.setuppos }))

ep0_arms : (l : Books) (c : Chip) (n : ℕ) → n ≤ 64 → Agree l c → Agree l (lower_epirq in0bavirq (set_ep0 (ep0_armed c.ep0 n) c))
ep0_arms l c n small i =
    agree_epirq l (set_ep0 (ep0_armed c.ep0 n) c) (lowered in0bavirq c.registers.epirq) (leaves_in0 c.registers.epirq)
    (with_flags
    (with_ep0 i (record { count = small; readpos = i.ep0.readpos; writepos = omega arith; setuppos = i.ep0.setuppos }))
    (flags_set (flags_of c) 0 1 i.flags (omega arith)))

pub keeps_ep0bc : Kept write_ep0bc unnoted_write
keeps_ep0bc l c b _ i =
    let n : ℕ = bit_and b count_bits in
    unless_elim (Agree l) (ltb 64 n ∷ ep0_busy c ∷ []) i (λ free. ep0_arms l c n (ltb-false 64 n (free 0)) i)

-- ---- endpoint 3

pub keeps_ep3fifo : Kept write_ep3infifo unnoted_write
keeps_ep3fifo l c b _ i =
    unless_elim (Agree l) (leb 64 c.ep3.writepos ∷ is_on c.ep3.armed ∷ []) i
    (λ free.
    let below : c.ep3.writepos < 64 = leb-false 64 c.ep3.writepos (free 0) in
    with_ep3 i (record { count = i.ep3.count; writepos = omega arith; irq = i.ep3.irq }))

-- IN3BAVIRQ clears
ep3_arms : (l : Books) (c : Chip) (n : ℕ) → n ≤ 64 → Agree l c → Agree l (lower_epirq in3bavirq (set_ep3 (ep3_armed c.ep3 n) c))
ep3_arms l c n small i =
    let x : ℕ = c.registers.epirq in
    let m : ℕ = others_than in3bavirq in
    record {
      sends = rw (has_and x m in2bavirq) i.sends;
      receives = rw (has_and x m out1davirq) i.receives;
      connection = i.connection;
      ep0 = i.ep0;
      ep3 = record {
        count = small;
        writepos = omega arith;
        irq = λ one. true_is_false (sym one ∙ has_and_none x m in3bavirq refl);
      };
      unused = clean_epirq c (lowered in3bavirq x) (has_and x m (unused_of 11)) i.unused;
      flags = flags_set (flags_of c) 6 1 i.flags (omega arith);
    }

pub keeps_ep3bc : Kept write_ep3inbc unnoted_write
keeps_ep3bc l c n _ i =
    unless_elim (Agree l) (ltb 64 n ∷ is_on c.ep3.armed ∷ []) i (λ free. ep3_arms l c n (ltb-false 64 n (free 0)) i)

-- ---- endpoint 2

ep2_stores : (l : Books) (c : Chip) (b : ℕ) → c.ep2.writepos < 64 → c.ep2.ring.waiting < 2 → Agree l c
    → Agree (set_sender (sender_stored l.0.sender b) l.0, l.1) (set_ep2 (ep2_stored c.ep2 b) c)
ep2_stores l c b below room i =
    let s = i.sends in
    let r : Ring = c.ep2.ring in
    with_sends i (record {
      fits = fits_store 2 r s.fits c.ep2.writepos b;
      queued = s.queued ∙ ap (λ (q : List (List ℕ)). l.0.sender.acknowledged ++ q)
          (sym (queue_store 2 r s.fits c.ep2.writepos b below room));
      bytes = rw (s.bytes, s.turn, s.place);
      turn = s.turn;
      place = ap (λ (n : ℕ). n + 1) s.place;
      writepos = omega arith;
      count = s.count;
      irq = s.irq;
    })

-- ledger and record make the same test
same_full : (l : Books) (c : Chip) → Agree l c → leb 2 (waiting_at2 l.0.sender) ≡ full 2 c.ep2.ring
same_full l c i = ap (leb 2) (waiting_is l c i.sends)

pub keeps_ep2fifo : Kept write_ep2infifo note_ep2infifo
keeps_ep2fifo l c b _ i =
    let same : leb 64 l.0.sender.writepos ∷ leb 2 (waiting_at2 l.0.sender) ∷ [] ≡ leb 64 c.ep2.writepos ∷ full 2 c.ep2.ring ∷ [] =
    rw (i.sends.place, same_full l c i) in
    unless_elim₂ (λ (d : Ledger). Agree (d, l.1)) (leb 64 l.0.sender.writepos ∷ leb 2 (waiting_at2 l.0.sender) ∷ [])
    (leb 64 c.ep2.writepos ∷ full 2 c.ep2.ring ∷ []) same i
    (λ free. ep2_stores l c b (leb-false 64 c.ep2.writepos (free 0)) (leb-false 2 c.ep2.ring.waiting (free 1)) i)

-- the packet waits; bav is IN2BAVIRQ afterwards
ep2_arms : (l : Books) (c : Chip) (n : ℕ) (bav : Bool) → n ≤ 64 → c.ep2.ring.waiting < 2
    → Tells l.1.written bav (ltb (c.ep2.ring.waiting + 1) 2) → SendsOf l c
    → Sends (sender_armed l.0.sender n) l.1.written (arm_next 2 c.ep2.ring n) 0 n bav
ep2_arms l c n bav small room tells s =
    let r : Ring = c.ep2.ring in
    record {
      fits = fits_arm 2 r s.fits room n small;
      queued =
          ap (λ (p : List ℕ). l.0.sender.armed ++ (p ∷ [])) (rw (s.bytes, s.turn))
          ∙ ap (λ (q : List (List ℕ)). q ++ (packet r.bytes (next_buffer 2 r) n ∷ [])) s.queued
          ∙ append_assoc l.0.sender.acknowledged (queue 2 r) (packet r.bytes (next_buffer 2 r) n ∷ [])
          ∙ ap (λ (q : List (List ℕ)). l.0.sender.acknowledged ++ q) (sym (queue_arm 2 r s.fits room n));
      bytes = s.bytes;
      turn = rw s.turn (sym (next_arm 2 r s.fits room n));
      place = refl;
      writepos = omega arith;
      count = small;
      irq = tells;
    }

-- IN2BAVIRQ clears when two now wait, and stays while there is room
agree_arms : (l : Books) (c : Chip) (n : ℕ) → n ≤ 64 → c.ep2.ring.waiting < 2 → Agree l c
    → Agree (set_sender (sender_armed l.0.sender n) l.0, l.1) (in2bav_cleared (set_ep2 (ep2_armed c.ep2 n) c))
agree_arms l c n small room i =
    let x : ℕ = c.registers.epirq in
    let w : ℕ = c.ep2.ring.waiting in
    let m : ℕ = others_than in2bavirq in
    cond_elim (Agree (set_sender (sender_armed l.0.sender n) l.0, l.1)) (leb 2 (w + 1))
    (λ two. record {
      sends = ep2_arms l c n _ small room (tells_same (has_and_none x m in2bavirq refl ∙ sym (le-ltb (w + 1) 2 (leb-true 2 (w + 1) two))))
          i.sends;
      receives = rw (has_and x m out1davirq) i.receives;
      connection = i.connection;
      ep0 = i.ep0;
      ep3 = rw (has_and x m in3bavirq) i.ep3;
      unused = clean_epirq c (lowered in2bavirq x) (has_and x m (unused_of 11)) i.unused;
      flags = i.flags;
    })
    (λ one. with_sends i (ep2_arms l c n _ small room
    (tells_room (lt-ltb w 2 room) (lt-ltb (w + 1) 2 (leb-false 2 (w + 1) one)) i.sends.irq) i.sends))

pub keeps_ep2bc : Kept write_ep2inbc note_ep2inbc
keeps_ep2bc l c n _ i =
    let same : ltb 64 n ∷ leb 2 (waiting_at2 l.0.sender) ∷ [] ≡ ltb 64 n ∷ full 2 c.ep2.ring ∷ [] = rw (same_full l c i) in
    unless_elim₂ (λ (d : Ledger). Agree (d, l.1)) (ltb 64 n ∷ leb 2 (waiting_at2 l.0.sender) ∷ []) (ltb 64 n ∷ full 2 c.ep2.ring ∷ []) same i
    (λ free. agree_arms l c n (ltb-false 64 n (free 0)) (leb-false 2 c.ep2.ring.waiting (free 1)) i)

-- ---- R11

-- the oldest of those not released moves to the released
oldest_moves : (s r q p rest : List (List ℕ)) → s ≡ r ++ q → q ≡ p ++ rest → take 1 q ≡ p → s ≡ r ++ take 1 (drop (length r) s) ++ rest
oldest_moves s r q p rest e f g =
    let head : take 1 (drop (length r) s) ≡ p = ap (λ (l : List (List ℕ)). take 1 (drop (length r) l)) e ∙ ap (take 1)
    (drop-append_seam r q) ∙ g in
    e ∙ ap (λ (l : List (List ℕ)). r ++ l) f ∙ sym (append_assoc r p rest) ∙ ap (λ (l : List (List ℕ)). r ++ l ++ rest) (sym head)

released : (l : Ledger) (r : Ring) → l.receiver.stored ≡ l.receiver.released ++ queue 2 r
    → l.receiver.stored ≡ l.receiver.released ++ oldest_kept l.receiver ++ queue 2 (release_oldest 2 r)
released l r e = elim (dec_lt 0 r.waiting) [
  | yes h ↦
      let q = queue_release 2 r h in
      oldest_moves l.receiver.stored l.receiver.released (queue 2 r) (oldest_packet 2 r ∷ []) (queue 2 (release_oldest 2 r)) e q
      (ap (take 1) q)
  | no g ↦
      let none : r.waiting ≡ 0 = omega arith in
      let same : release_oldest 2 r ≡ r = release_none 2 r none in
      oldest_moves l.receiver.stored l.receiver.released (queue 2 r) [] (queue 2 (release_oldest 2 r)) e (ap (queue 2) (sym same))
      (ap (take 1) (queue_none 2 r none))
]

agree_release : (l : Books) (c : Chip) → Agree l c → Agree (set_receiver (receiver_released l.0.receiver) l.0, l.1) (release c)
agree_release l c i =
    let more : Bool = ltb 0 (release_oldest 2 c.ep1.ring).waiting in
    let x : ℕ = c.registers.epirq in
    record {
      sends = rw (has_stored_other out1davirq more x in2bavirq refl refl) i.sends;
      receives = record {
        fits = fits_release 2 c.ep1.ring i.receives.fits;
        queued = released l.0 c.ep1.ring i.receives.queued;
        toggled = i.receives.toggled;
        readpos = omega arith;
        irq = has_stored_same out1davirq more x refl refl;
      };
      connection = i.connection;
      ep0 = i.ep0;
      ep3 = rw (has_stored_other out1davirq more x in3bavirq refl refl) i.ep3;
      unused = clean_epirq c (stored out1davirq more x) (has_stored_other out1davirq more x (unused_of 11) refl refl) i.unused;
      flags = i.flags;
    }

pub keeps_epirq : KeptBy write_epirq note_epirq watch_epirq
keeps_epirq l c b _ i =
    let w : Watch = watch_epirq l.1 b in
    let j : Agree (l.0, w) (lower_epirq (bit_and b cleared_epirqs) c) = agree_cleared l c b i in
    cond_elim₂ (λ (d : Ledger). Agree (d, w)) (has b out1davirq) (has b out1davirq) refl
    (λ _. agree_release (l.0, w) (lower_epirq (bit_and b cleared_epirqs) c) j) (λ _. j)

-- ---- R15

-- ledger, watch and record make the same test
rise_keeps : (l : Books) (c : Chip) (r s t : Bool) → r ≡ t → s ≡ t → Agree l c
    → Agree (cond r (ledger_after ChipReset l.0) l.0, cond s (watch_after ChipReset l.1) l.1) (cond t (chip_after ChipReset c) c)
rise_keeps l c r s true e f i = rw (e, f) (agree_reset ChipReset l c i)
rise_keeps l c r s false e f i = rw (e, f) i

pub keeps_usbctl : KeptBy write_usbctl note_usbctl watch_usbctl
keeps_usbctl l c b _ i =
    let v : ℕ = bit_and b usbctl_bits in
    let j : Agree (noted_usbctl v l.0, record { usbctl = v; written = l.1.written }) (set_usbctl v c) =
    with_unused (with_connection i (record {
      ledger = ap (λ (x : Connection). record { usbctl = v; power = x.power }) i.connection.ledger;
      watch = refl;
    }))
    (clean_set (bytes_of c.registers) unused_registers 6 v i.unused (has_and_none b usbctl_bits (unused_of 15) refl)) in
    rise_keeps (noted_usbctl v l.0, record { usbctl = v; written = l.1.written }) (set_usbctl v c)
    (rises chipres l.0.connection.usbctl v) (rises chipres l.1.usbctl v) (rises chipres c.registers.usbctl v)
    (ap (λ (x : Connection). rises chipres x.usbctl v) i.connection.ledger) (ap (λ (u : ℕ). rises chipres u v) i.connection.watch) j
