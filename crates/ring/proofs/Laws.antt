-- The laws of a ring of any number n of buffers: what each operation does to the waiting packets, and that it keeps the ring
-- fit. One buffer is the case n = 1.
use mathlib.Core.Path.{◌≡◌, refl, sym, ap, ◌∙◌}
use mathlib.Core.Bool.{Bool, true}
use mathlib.Core.List.{List, [], ◌∷◌, ◌++◌}
use Prim.Native.Nat.{ℕ, zero, suc, ◌+◌, ◌-◌, ◌*◌, ◌%◌, ◌≤◌, ◌<◌}
use native.Mathlib.Nat.{add-zero, add-suc, suc-add, zero-add, mod-lt, mod-mod, mod-add-mod, mul-le-mul_right}
use native.Mathlib.Decide.{dec_lt, ℕ_discrete}
use native.Mathlib.Omega.{arith}
use lib.Dec.{eqb, ltb, leb}
use lib.ListN.{length, get_or, set, length-set}
use lib.Seq.{sets, length-sets, get_or-set_same, get_or-set_other, get_or-append-add}
use borrow.Author.Tests.{leb-true, ltb-true, eq-eqb, ne_eqb, lt-ltb, le-leb}
use Rattle.bits.specs.Clauses.{clauses}
use Rattle.bits.proofs.Cases.{cond_elim, clause_at, clauses_all}
use Rattle.ring.specs.declared.Ring.{Ring}
use Rattle.ring.specs.Ring.{packet, packets, queue, next_buffer, oldest_count, oldest_packet, with_bytes, store_byte, arm_next}
use Rattle.ring.specs.Ring.{with_payload, fill_next, without_oldest, release_oldest, drained, sound_counts, sound_ring, Fits}
use Rattle.ring.proofs.Packet.{packet_set_other, packet_sets_other, packet_sets_same}
use Rattle.ring.proofs.Places.{places_apart}
use Rattle.ring.proofs.Queue.{packets_length, packets_round, packets_more, packets_same}

-- ---- soundness by its clauses, and back

counts_length : (cs : List ℕ) (i k : ℕ) → length (sound_counts cs i k) ≡ k
counts_length cs i zero = refl
counts_length cs i (suc k) = ap suc (counts_length cs (suc i) k)

count_at : (cs : List ℕ) (rest : List Bool) (i k j : ℕ) → j < k → get_or (sound_counts cs i k ++ rest) j true ≡ leb (get_or cs (i + j) 0) 64
count_at cs rest i zero j h = absurd (omega arith)
count_at cs rest i (suc k) zero h = ap (λ (n : ℕ). leb (get_or cs n 0) 64) (sym (add-zero i))
count_at cs rest i (suc k) (suc j) h =
    count_at cs rest (suc i) k j (omega arith) ∙ ap (λ (n : ℕ). leb (get_or cs n 0) 64) (suc-add i j ∙ sym (add-suc i j))

counts_hold : (cs : List ℕ) (rest : List Bool) (i k : ℕ) → ((j : ℕ) → j < k → get_or cs (i + j) 0 ≤ 64) → clauses rest ≡ true
    → clauses (sound_counts cs i k ++ rest) ≡ true
counts_hold cs rest i k small last = clauses_all (sound_counts cs i k ++ rest) (λ j. at j)
  where
    past : (j : ℕ) → get_or (sound_counts cs i k ++ rest) (length (sound_counts cs i k) + j) true ≡ true
    past j = get_or-append-add (sound_counts cs i k) rest j true ∙ clause_at rest last j

    at : (j : ℕ) → get_or (sound_counts cs i k ++ rest) j true ≡ true
    at j = elim (dec_lt j k) [
      | yes h ↦ count_at cs rest i k j h ∙ le-leb (get_or cs (i + j) 0) 64 (small j h)
      | no g ↦
          let place : length (sound_counts cs i k) + (j - k) ≡ j = omega (arith, counts_length cs i k) in
          ap (λ (m : ℕ). get_or (sound_counts cs i k ++ rest) m true) (sym place) ∙ past (j - k)
    ]

-- a clause past the counts
rest_at : (n : ℕ) (r : Ring) → sound_ring n r ≡ true → (j : ℕ) → get_or (ltb r.oldest n ∷ leb r.waiting n ∷ []) j true ≡ true
rest_at n r s j =
    let cs = sound_counts r.counts 0 n in
    sym (get_or-append-add cs (ltb r.oldest n ∷ leb r.waiting n ∷ []) j true)
    ∙ clause_at (cs ++ (ltb r.oldest n ∷ leb r.waiting n ∷ [])) s (length cs + j)

module _ (n : ℕ) (r : Ring) (sound : sound_ring n r ≡ true) where
  pub sound_size : (i : ℕ) → i < n → get_or r.counts i 0 ≤ 64
  sound_size i h =
      let rest = ltb r.oldest n ∷ leb r.waiting n ∷ [] in
      leb-true (get_or r.counts i 0) 64
      (ap (λ (k : ℕ). leb (get_or r.counts k 0) 64) (sym (zero-add i)) ∙ sym (count_at r.counts rest 0 n i h) ∙ clause_at
      (sound_counts r.counts 0 n ++ rest) sound i)

  pub sound_turn : r.oldest < n
  sound_turn = ltb-true r.oldest n (rest_at n r sound 0)

  pub sound_most : r.waiting ≤ n
  sound_most = leb-true r.waiting n (rest_at n r sound 1)

pub sound_from : (n : ℕ) (r : Ring) → ((i : ℕ) → i < n → get_or r.counts i 0 ≤ 64) → r.oldest < n → r.waiting ≤ n → sound_ring n r ≡ true
sound_from n r sizes turn most =
    counts_hold r.counts (ltb r.oldest n ∷ leb r.waiting n ∷ []) 0 n (λ j h. rw (zero-add j) (sizes j h))
    (rw (lt-ltb r.oldest n turn, le-leb r.waiting n most))

-- ---- what waits

module _ (n : ℕ) (r : Ring) where
  pub queue_length : length (queue n r) ≡ r.waiting
  queue_length = packets_length n r.bytes r.counts r.oldest r.waiting

  pub queue_none : r.waiting ≡ 0 → queue n r ≡ []
  queue_none e = ap (packets n r.bytes r.counts r.oldest) e

  pub release_some : 0 < r.waiting → release_oldest n r ≡ without_oldest n r
  release_some h = rw (ne_eqb r.waiting 0 (λ e. omega arith))

  pub release_none : r.waiting ≡ 0 → release_oldest n r ≡ r
  release_none e = rw (eq-eqb r.waiting 0 e)

-- ---- the bytes of the next buffer change

module _ (n : ℕ) (r : Ring) (fits : Fits n r) where
  next_lt : next_buffer n r < n
  next_lt = mod-lt _ (omega (arith, sound_turn n r fits.sound))

  -- a waiting packet is not in the next buffer, where there is one
  waits_apart : r.waiting < n → (j : ℕ) → j < r.waiting → (r.oldest + j) % n ≡ next_buffer n r → ⊥
  waits_apart l j h = places_apart n r.oldest j r.waiting h l

  waits_size : (j : ℕ) → get_or r.counts ((r.oldest + j) % n) 0 ≤ 64
  waits_size j = sound_size n r fits.sound ((r.oldest + j) % n) (mod-lt (r.oldest + j) (omega (arith, sound_turn n r fits.sound)))

  fits_bytes : (s : List ℕ) → length s ≡ length r.bytes → Fits n (with_bytes r s)
  fits_bytes s e = record { room = rw e fits.room; places = fits.places; sound = fits.sound }

  -- a stored byte leaves what waits
  pub queue_store : (p b : ℕ) → p < 64 → r.waiting < n → queue n (store_byte n r p b) ≡ queue n r
  queue_store p b h l =
      packets_same n (set r.bytes (next_buffer n r * 64 + p) b) r.counts r.bytes r.counts r.waiting r.oldest
      (λ j k. packet_set_other r.bytes ((r.oldest + j) % n) (next_buffer n r) p b _ (waits_apart l j k) (waits_size j) h)

  pub fits_store : (p b : ℕ) → Fits n (store_byte n r p b)
  fits_store p b = fits_bytes (set r.bytes (next_buffer n r * 64 + p) b) (length-set r.bytes (next_buffer n r * 64 + p) b)

  queue_payload : (vs : List ℕ) → length vs ≤ 64 → r.waiting < n → queue n (with_payload n r vs) ≡ queue n r
  queue_payload vs h l =
      packets_same n (sets r.bytes (next_buffer n r * 64) vs) r.counts r.bytes r.counts r.waiting r.oldest
      (λ j k. rw (← (add-zero (next_buffer n r * 64)))
      (packet_sets_other vs r.bytes ((r.oldest + j) % n) (next_buffer n r) 0 _ (waits_apart l j k) (waits_size j) (omega arith)))

-- ---- the next buffer's packet waits

module _ (n : ℕ) (r : Ring) (fits : Fits n r) (l : r.waiting < n) where
  -- arming appends the packet as the buffer stands
  pub queue_arm : (c : ℕ) → queue n (arm_next n r c) ≡ queue n r ++ (packet r.bytes (next_buffer n r) c ∷ [])
  queue_arm c =
      let more : r.waiting + 1 ≡ suc r.waiting = omega arith in
      let counts : List ℕ = set r.counts (next_buffer n r) c in
      let placed : next_buffer n r < length r.counts = omega (arith, next_lt n r fits, fits.places) in
      ap (packets n r.bytes counts r.oldest) more
      ∙ packets_more n r.bytes counts r.waiting r.oldest
      ∙ ap (λ (x : ℕ). packets n r.bytes counts r.oldest r.waiting ++ (packet r.bytes (next_buffer n r) x ∷ []))
      (get_or-set_same r.counts (next_buffer n r) c 0 placed)
      ∙ ap (λ (q : List (List ℕ)). q ++ (packet r.bytes (next_buffer n r) c ∷ []))
      (packets_same n r.bytes counts r.bytes r.counts r.waiting r.oldest
      (λ j k. ap (packet r.bytes ((r.oldest + j) % n))
      (get_or-set_other r.counts (next_buffer n r) _ c 0 (waits_apart n r fits l j k))))

  pub fits_arm : (c : ℕ) → c ≤ 64 → Fits n (arm_next n r c)
  fits_arm c h = record {
    room = fits.room;
    places = rw length-set fits.places;
    sound = sound_from n (arm_next n r c) size (sound_turn n r fits.sound) (omega arith);
  }
    where
      size : (i : ℕ) → i < n → get_or (set r.counts (next_buffer n r) c) i 0 ≤ 64
      size i k = elim (ℕ_discrete i (next_buffer n r)) [
        | yes e ↦
            let placed : next_buffer n r < length r.counts = omega (arith, next_lt n r fits, fits.places) in
            rw (e, get_or-set_same r.counts (next_buffer n r) c 0 placed) h
        | no e ↦ rw (get_or-set_other r.counts (next_buffer n r) i c 0 e) (sound_size n r fits.sound i k)
      ]

  pub next_arm : (c : ℕ) → next_buffer n (arm_next n r c) ≡ (next_buffer n r + 1) % n
  next_arm c = ap (λ (x : ℕ). x % n) (omega arith) ∙ sym (mod-add-mod (r.oldest + r.waiting) n 1)

-- filling appends the payload
module _ (n : ℕ) (r : Ring) (fits : Fits n r) (l : r.waiting < n) (vs : List ℕ) (h : length vs ≤ 64) where
  payload_fits : Fits n (with_payload n r vs)
  payload_fits = fits_bytes n r fits (sets r.bytes (next_buffer n r * 64) vs) (length-sets r.bytes (next_buffer n r * 64) vs)

  pub queue_fill : queue n (fill_next n r vs) ≡ queue n r ++ (vs ∷ [])
  queue_fill =
      let inside : next_buffer n r * 64 + length vs ≤ length r.bytes =
      omega (arith, mul-le-mul_right 64 (next_lt n r fits), fits.room) in
      queue_arm n (with_payload n r vs) payload_fits l (length vs)
      ∙ ap (λ (q : List (List ℕ)). q ++ (packet (sets r.bytes (next_buffer n r * 64) vs) (next_buffer n r) (length vs) ∷ []))
      (queue_payload n r fits vs h l)
      ∙ ap (λ (p : List ℕ). queue n r ++ (p ∷ [])) (packet_sets_same vs r.bytes (next_buffer n r) inside)

  pub fits_fill : Fits n (fill_next n r vs)
  fits_fill = fits_arm n (with_payload n r vs) payload_fits l (length vs) h

-- ---- the oldest goes

module _ (n : ℕ) (r : Ring) where
  oldest_head : 0 < r.waiting → packet r.bytes (r.oldest % n) (get_or r.counts (r.oldest % n) 0) ≡ oldest_packet n r
  oldest_head h = rw (ne_eqb r.waiting 0 (λ e. omega arith))

  -- letting go takes the head
  pub queue_release : 0 < r.waiting → queue n r ≡ oldest_packet n r ∷ queue n (release_oldest n r)
  queue_release h =
      let one : r.waiting ≡ suc (r.waiting - 1) = omega arith in
      ap (packets n r.bytes r.counts r.oldest) one
      ∙ ap (λ (p : List ℕ). p ∷ packets n r.bytes r.counts (suc r.oldest) (r.waiting - 1)) (oldest_head h)
      ∙ ap (λ (q : List (List ℕ)). oldest_packet n r ∷ q)
      (packets_round n r.bytes r.counts (r.waiting - 1) (suc r.oldest) ((r.oldest + 1) % n)
      (ap (λ (x : ℕ). x % n) (omega arith) ∙ sym (mod-mod (r.oldest + 1) n))
      ∙ ap (queue n) (sym (release_some n r h)))

  pub next_release : 0 < r.waiting → next_buffer n (release_oldest n r) ≡ next_buffer n r
  next_release h =
      ap (next_buffer n) (release_some n r h) ∙ mod-add-mod (r.oldest + 1) n (r.waiting - 1) ∙ ap (λ (x : ℕ). x % n) (omega arith)

  pub fits_release : Fits n r → Fits n (release_oldest n r)
  fits_release fits =
      cond_elim (Fits n) (eqb r.waiting 0) (λ _. fits)
      (λ _. record {
        room = fits.room;
        places = fits.places;
        sound =
            sound_from n (without_oldest n r) (sound_size n r fits.sound)
            (mod-lt (r.oldest + 1) (omega (arith, sound_turn n r fits.sound)))
            (omega (arith, sound_most n r fits.sound));
      })

-- the oldest packet has at most 64 bytes
pub oldest_small : (n : ℕ) (r : Ring) → sound_ring n r ≡ true → oldest_count n r ≤ 64
oldest_small n r sound =
    cond_elim (λ (c : ℕ). c ≤ 64) (eqb r.waiting 0) (λ _. omega arith)
    (λ _. sound_size n r sound (r.oldest % n) (mod-lt r.oldest (omega (arith, sound_turn n r sound))))

-- ---- a ring of two

-- emptied, with its bytes or with others of as many
pub fits_drained : (r : Ring) (s : List ℕ) → 2 * 64 ≤ length s → Fits 2 (drained (with_bytes r s))
fits_drained r s h = record { room = h; places = omega arith; sound = refl }
