-- A ring of n buffers of 64 bytes in one flat array, which serve in turn: what waits in it, what each operation makes of it,
-- and when it is sound. The record has two such buffers (endpoints 1 and 2); a single buffer is a ring of one (endpoints 0 and
-- 3). Document 01: "endpoint 2's buffers, like endpoint 1's, serve in turn"; 000 pages 13, 42. The tests that decide whether an
-- operation is made stand in the rule that makes it.
use Rattle.std.specs.Prelude.{◌≡◌, Bool, true, cond, List, [], ◌∷◌, ◌++◌, ℕ, zero, suc, ◌+◌, ◌-◌, ◌*◌, ◌%◌, ◌≤◌, eqb, ltb, leb, length, get_or, set, take, drop, replicate}
use Rattle.std.proofs.lemmas.List.Edits.{sets}
use Rattle.bits.specs.Clauses.{clauses}
use Rattle.ring.specs.declared.Ring.{Ring}

-- ---- what waits

-- the first c bytes of buffer i
abbrev pub packet : List ℕ → ℕ → ℕ → List ℕ
packet bytes i c = take c (drop (i * 64) bytes)

-- the packets of k buffers from buffer i on, going round
abbrev pub packets : ℕ → List ℕ → List ℕ → ℕ → ℕ → List (List ℕ)
packets n bytes counts i zero = []
packets n bytes counts i (suc k) = packet bytes (i % n) (get_or counts (i % n) 0) ∷ packets n bytes counts (suc i) k

-- the waiting packets, oldest first
abbrev pub queue : ℕ → Ring → List (List ℕ)
queue n r = packets n r.bytes r.counts r.oldest r.waiting

-- every buffer waits
abbrev pub full : ℕ → Ring → Bool
full n r = leb n r.waiting

-- the buffer to be filled next
abbrev pub next_buffer : ℕ → Ring → ℕ
next_buffer n r = (r.oldest + r.waiting) % n

-- the oldest waiting packet: its count, 0 where none waits, and its bytes
abbrev pub oldest_count : ℕ → Ring → ℕ
oldest_count n r = cond (eqb r.waiting 0) 0 (get_or r.counts (r.oldest % n) 0)

abbrev pub oldest_packet : ℕ → Ring → List ℕ
oldest_packet n r = packet r.bytes (r.oldest % n) (oldest_count n r)

-- ---- operations

-- nothing waits, and the next buffer is the first
abbrev pub drained : Ring → Ring
drained r = record { bytes = r.bytes; counts = replicate 2 0; oldest = 0; waiting = 0 }

-- and every byte is 0
abbrev pub empty_ring : Ring
empty_ring = record { bytes = replicate 128 0; counts = replicate 2 0; oldest = 0; waiting = 0 }

abbrev pub with_bytes : Ring → List ℕ → Ring
with_bytes r s = record { bytes = s; counts = r.counts; oldest = r.oldest; waiting = r.waiting }

-- a byte at a position of the next buffer
abbrev pub store_byte : ℕ → Ring → ℕ → ℕ → Ring
store_byte n r p b = with_bytes r (set r.bytes (next_buffer n r * 64 + p) b)

-- the next buffer's first c bytes, as they stand, wait
abbrev pub arm_next : ℕ → Ring → ℕ → Ring
arm_next n r c = record { bytes = r.bytes; counts = set r.counts (next_buffer n r) c; oldest = r.oldest; waiting = r.waiting + 1 }

-- a payload at the next buffer's start waits, the buffer's rest stays
abbrev pub with_payload : ℕ → Ring → List ℕ → Ring
with_payload n r vs = with_bytes r (sets r.bytes (next_buffer n r * 64) vs)

abbrev pub fill_next : ℕ → Ring → List ℕ → Ring
fill_next n r vs = arm_next n (with_payload n r vs) (length vs)

-- the oldest waiting packet goes, if any
abbrev pub without_oldest : ℕ → Ring → Ring
without_oldest n r = record { bytes = r.bytes; counts = r.counts; oldest = (r.oldest + 1) % n; waiting = r.waiting - 1 }

abbrev pub release_oldest : ℕ → Ring → Ring
release_oldest n r = cond (eqb r.waiting 0) r (without_oldest n r)

-- ---- a single buffer, armed or not, is a ring of one

abbrev pub single : List ℕ → ℕ → Bool → Ring
single s c armed = record { bytes = s; counts = c ∷ []; oldest = 0; waiting = cond armed 1 0 }

-- ---- soundness (document 01, "It is sound when"): counts are 0..64, 0..n wait; and, ours, the oldest is one of the n buffers

-- the counts of k buffers from buffer i on
abbrev pub sound_counts : List ℕ → ℕ → ℕ → List Bool
sound_counts cs i zero = []
sound_counts cs i (suc k) = leb (get_or cs i 0) 64 ∷ sound_counts cs (suc i) k

abbrev pub sound_ring : ℕ → Ring → Bool
sound_ring n r = clauses (sound_counts r.counts 0 n ++ (ltb r.oldest n ∷ leb r.waiting n ∷ []))

-- and there is room for n buffers, which the record's type says of two
pub record Fits (n : ℕ) (r : Ring) : Type 0 where
  pub room : n * 64 ≤ length r.bytes
  pub places : n ≤ length r.counts
  pub sound : sound_ring n r ≡ true
