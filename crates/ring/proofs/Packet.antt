-- The packet in one buffer of a flat array of 64-byte buffers: its bytes, its length, and which stores leave it.
-- Any number of buffers.
use mathlib.Core.Path.{◌≡◌, refl, ap, ◌∙◌}
use mathlib.Core.Logic.{◌≢◌}
use mathlib.Core.List.{List, [], ◌∷◌, ◌++◌, append_assoc}
use Prim.Native.Nat.{ℕ, suc, ◌+◌, ◌-◌, ◌*◌, ◌≤◌, ◌<◌}
use native.Mathlib.Decide.{dec_lt}
use native.Mathlib.Omega.{arith}
use lib.ListN.{length, get_or, set, take, drop, length-take, length-drop, get_or-eq_default}
use lib.Seq.{sets, sets-eq, get_or-take, get_or-drop, take-set-le, drop-set-lt, drop-set-add, take_at, drop_at, length-take-le}
use Rattle.ring.specs.Ring.{packet}

-- ---- bytes and length

pub packet_byte : (s : List ℕ) (i c p : ℕ) → p < c → get_or (packet s i c) p 0 ≡ get_or s (i * 64 + p) 0
packet_byte s i c p h = get_or-take c (drop (i * 64) s) p 0 h ∙ get_or-drop (i * 64) s p 0

pub packet_past : (s : List ℕ) (i c p : ℕ) → c ≤ p → get_or (packet s i c) p 0 ≡ 0
packet_past s i c p h = get_or-eq_default (packet s i c) 0 (omega (arith, length-take c (drop (i * 64) s)))

pub packet_length : (s : List ℕ) (i c : ℕ) → i * 64 + c ≤ length s → length (packet s i c) ≡ c
packet_length s i c h = length-take-le c (drop (i * 64) s) (rw length-drop (omega arith))

-- ---- stores

-- a store in buffer j leaves the packet in buffer i
pub packet_set_other : (s : List ℕ) (i j p b c : ℕ) → i ≢ j → c ≤ 64 → p < 64 → packet (set s (j * 64 + p) b) i c ≡ packet s i c
packet_set_other s i j p b c ne hc hp =
    elim (dec_lt i j) [
      | yes l ↦
          let d : ℕ = (j * 64 + p) - i * 64 in
          let place : j * 64 + p ≡ i * 64 + d = omega arith in
          let past : c ≤ d = omega arith in
          ap (λ (k : ℕ). packet (set s k b) i c) place ∙ ap (take c) (drop-set-add (i * 64) s d b) ∙ take-set-le c
          (drop (i * 64) s) d b past
      | no g ↦ ap (take c) (drop-set-lt (i * 64) s (j * 64 + p) b (omega arith))
    ]

-- and so do many
pub packet_sets_other : (vs s : List ℕ) (i j p c : ℕ) → i ≢ j → c ≤ 64 → p + length vs ≤ 64 → packet (sets s (j * 64 + p) vs) i c
    ≡ packet s i c
packet_sets_other [] s i j p c ne hc hp = refl
packet_sets_other (v ∷ vs) s i j p c ne hc hp =
    let place : suc (j * 64 + p) ≡ j * 64 + suc p = omega arith in
    let rest : suc p + length vs ≤ 64 = omega arith in
    ap (λ (k : ℕ). packet (sets (set s (j * 64 + p) v) k vs) i c) place
    ∙ packet_sets_other vs (set s (j * 64 + p) v) i j (suc p) c ne hc rest
    ∙ packet_set_other s i j p v c ne hc (omega arith)

-- what is stored at a buffer's start is the packet there
pub packet_sets_same : (vs s : List ℕ) (j : ℕ) → j * 64 + length vs ≤ length s → packet (sets s (j * 64) vs) j (length vs) ≡ vs
packet_sets_same vs s j h =
    let front : List ℕ = take (j * 64) s in
    let rest : List ℕ = drop (j * 64 + length vs) s in
    let long : length front ≡ j * 64 = length-take-le (j * 64) s (omega arith) in
    ap (λ (t : List ℕ). packet t j (length vs)) (sets-eq vs s (j * 64) h ∙ append_assoc front vs rest)
    ∙ ap (take (length vs)) (drop_at front (vs ++ rest) (j * 64) long)
    ∙ take_at vs rest (length vs) refl
