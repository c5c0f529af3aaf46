-- The rules of R0 to R4 on the record are those of a buffer and its write position, and of a packet and its read position.
use mathlib.Core.Path.{◌≡◌, refl, sym, ap, ◌∙◌}
use mathlib.Core.Bool.{Bool, true, false, cond}
use mathlib.Core.List.{List}
use Prim.Native.Nat.{ℕ, ◌+◌, ◌<◌, ◌≤◌}
use native.Mathlib.Nat.{zero-add}
use native.Mathlib.Decide.{dec_lt}
use native.Mathlib.Omega.{arith}
use lib.Dec.{leb, ltb}
use lib.ListN.{length, get_or, set, take, get_or-eq_default}
use lib.Seq.{get_or-take, length-take-le}
use borrow.Author.Tests.{le-leb, lt-ltb, le-ltb}
use Rattle.bits.proofs.Cases.{cond_same, cond_map}
use Rattle.ring.specs.Ring.{oldest_count, oldest_packet}
use Rattle.chip.specs.declared.Endpoint0.{Endpoint0}
use Rattle.chip.specs.declared.Endpoint1.{Endpoint1}
use Rattle.chip.specs.declared.Chip.{Chip}
use Rattle.chip.specs.Set.{set_ep0, set_ep1}
use Rattle.model.specs.Reply.{Outcome, outcome}
use Rattle.model.specs.Spi.{write_to, burst_to}
use Rattle.rules.specs.Write.{store_fifo, ep0_busy}
use Rattle.rules.specs.Read.{read_fifo, ep0_at}
use Rattle.rules.specs.Spi.{step_register, max3420e_spi}
use Rattle.fifos.specs.Fifo.{position_to}
use Rattle.fifos.proofs.Read.{fifo_gives, fifo_state}
use Rattle.bursts.specs.Burst.{Filling, filling, limit_of, fill_to, packet_spi, Burst}
use Rattle.bursts.specs.Burst.{WriteFifo, ep0fifo, ep2infifo, ep3infifo, fifo_stored}
use Rattle.bursts.proofs.Part.{part_to, put_back}

-- a limit of 0 ignores every byte, as a buffer that is the chip's does
stores : {R : Type 0} (put : Filling → R) (busy : Bool) (start : ℕ) (s : Filling) (b : ℕ)
    → put (fill_to start (limit_of busy) s b) ≡ store_fifo s.position busy (put s)
    (put (filling (set s.bytes (start + s.position) b) (s.position + 1)))
stores put true start s b = rw (le-leb 0 s.position (omega arith)) (sym (cond_same (leb 64 s.position) (put s)))
stores put false start s b = cond_map put (leb 64 s.position) s (filling (set s.bytes (start + s.position) b) (s.position + 1))

stores_first : {R : Type 0} (put : Filling → R) (busy : Bool) (s : Filling) (b : ℕ)
    → put (fill_to 0 (limit_of busy) s b) ≡ store_fifo s.position busy (put s)
    (put (filling (set s.bytes s.position b) (s.position + 1)))
stores_first put busy s b =
    let p = s.position in
    stores put busy 0 s b ∙ ap (λ (k : ℕ). store_fifo p busy (put s) (put (filling (set s.bytes k b) (p + 1)))) (zero-add p)

-- the byte at a place of a packet, 0 past its end
byte_within : (packet : List ℕ) (p byte : ℕ) → (p < length packet → byte ≡ get_or packet p 0)
    → get_or packet p 0 ≡ cond (ltb p (length packet)) byte 0
byte_within packet p byte same =
    elim (dec_lt p (length packet)) [
      | yes l ↦ rw (lt-ltb p (length packet) l) (sym (same l))
      | no g ↦ rw (le-ltb p (length packet) (omega arith)) (get_or-eq_default packet 0 (omega arith))
    ]

-- a read at place p of a packet that ends there
abbrev read_at : (ℕ → Chip) → ℕ → ℕ → ℕ → Outcome Chip ℕ
read_at put end p byte = read_fifo (ltb p end) byte (put (p + 1)) (put p)

-- ---- writes: the bytes stored one by one, put back, are the burst on the record

written : (w : WriteFifo) (c : Chip) → step_register w.register ≡ w.register → w.put c (w.state c) ≡ c
    → ((s : Filling) (b : ℕ)
    → w.put c (fill_to (w.start c) (limit_of (w.chips c)) s b) ≡ write_to max3420e_spi (w.put c s) w.register b)
    → (bs : List ℕ) → fifo_stored w c bs ≡ burst_to max3420e_spi c true w.register bs
written w c stays kept rule bs =
    part_to max3420e_spi (fill_to (w.start c) (limit_of (w.chips c))) (λ s. outcome s 0) (w.put c) true w.register stays rule bs
    (w.state c)
    ∙ ap (λ (d : Chip). burst_to max3420e_spi d true w.register bs) kept

pub written_ep0 : (c : Chip) (bs : List ℕ) → fifo_stored ep0fifo c bs ≡ burst_to max3420e_spi c true 0 bs
written_ep0 c = written ep0fifo c refl refl (stores_first (ep0fifo.put c) (ep0_busy c))

pub written_ep2 : (c : Chip) (bs : List ℕ) → fifo_stored ep2infifo c bs ≡ burst_to max3420e_spi c true 2 bs
written_ep2 c = written ep2infifo c refl refl (stores (ep2infifo.put c) (ep2infifo.chips c) (ep2infifo.start c))

pub written_ep3 : (c : Chip) (bs : List ℕ) → fifo_stored ep3infifo c bs ≡ burst_to max3420e_spi c true 3 bs
written_ep3 c = written ep3infifo c refl refl (stores_first (ep3infifo.put c) (ep3infifo.chips c))

-- ---- reads

-- a register whose read gives a byte of a packet and moves on within it
read_back : (n : ℕ) → step_register n ≡ n → (put : ℕ → Chip) (packet : List ℕ) (byte : ℕ → ℕ)
    → ((p : ℕ) → p < length packet → byte p ≡ get_or packet p 0)
    → ((p : ℕ) → read_at put (length packet) p (byte p) ≡ max3420e_spi.read n (put p)) → (bytes reply out : List ℕ) (p q : ℕ)
    → Burst (packet_spi packet) p q false 0 bytes reply out → Burst max3420e_spi (put p) (put q) false n bytes reply out
read_back n stays put packet byte same rule =
    put_back max3420e_spi (λ (p b : ℕ). p) (λ (p : ℕ). outcome (position_to p (length packet)) (get_or packet p 0)) put false n stays
    (λ p b. fifo_state (ltb p (length packet)) (byte p) p put ∙ ap (λ (o : Outcome Chip ℕ). o.state) (rule p))
    (λ p. byte_within packet p (byte p) (same p) ∙ fifo_gives (ltb p (length packet)) (byte p) (put (p + 1)) (put p)
    ∙ ap (λ (o : Outcome Chip ℕ). o.gives) (rule p))

pub read_ep0 : (c : Chip) (e : Endpoint0) → e.count ≤ length e.bytes → (bytes reply out : List ℕ) (q : ℕ)
    → Burst (packet_spi (take e.count e.bytes)) e.readpos q false 0 bytes reply out
    → Burst max3420e_spi (set_ep0 e c) (set_ep0 (ep0_at q e.setuppos e) c) false 0 bytes reply out
read_ep0 c e within bytes reply out q =
    let packet = take e.count e.bytes in
    let put : ℕ → Chip = λ p. set_ep0 (ep0_at p e.setuppos e) c in
    let long : length packet ≡ e.count = length-take-le e.count e.bytes within in
    read_back 0 refl put packet (λ p. get_or e.bytes p 0) (λ p l. sym (get_or-take e.count e.bytes p 0 (omega arith)))
    (λ p. ap (λ (k : ℕ). read_at put k p (get_or e.bytes p 0)) long) bytes reply out e.readpos q

pub read_ep1 : (c : Chip) (e : Endpoint1) → length (oldest_packet 2 e.ring) ≡ oldest_count 2 e.ring → (bytes reply out : List ℕ) (q : ℕ)
    → Burst (packet_spi (oldest_packet 2 e.ring)) e.readpos q false 0 bytes reply out
    → Burst max3420e_spi (set_ep1 e c) (set_ep1 (record { ring = e.ring; readpos = q; toggle = e.toggle }) c) false 1 bytes reply out
read_ep1 c e long bytes reply out q =
    let packet = oldest_packet 2 e.ring in
    let put : ℕ → Chip = λ p. set_ep1 (record { ring = e.ring; readpos = p; toggle = e.toggle }) c in
    read_back 1 refl put packet (λ p. get_or packet p 0) (λ p l. refl) (λ p. ap (λ (k : ℕ). read_at put k p (get_or packet p 0)) long) bytes
    reply out e.readpos q

pub read_sudfifo_law : (c : Chip) (e : Endpoint0) → length e.setup ≡ 8 → (bytes reply out : List ℕ) (q : ℕ)
    → Burst (packet_spi e.setup) e.setuppos q false 0 bytes reply out
    → Burst max3420e_spi (set_ep0 e c) (set_ep0 (ep0_at e.readpos q e) c) false 4 bytes reply out
read_sudfifo_law c e long bytes reply out q =
    let put : ℕ → Chip = λ p. set_ep0 (ep0_at e.readpos p e) c in
    read_back 4 refl put e.setup (λ p. get_or e.setup p 0) (λ p l. refl)
    (λ p. ap (λ (k : ℕ). read_at put k p (get_or e.setup p 0)) long) bytes reply out e.setuppos q
