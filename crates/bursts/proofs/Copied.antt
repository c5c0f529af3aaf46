-- Bytes copied at once are bytes stored one by one: for one buffer, from a place of a list on, and its write position. Any list of bytes,
-- any buffers, place, limit and position. The bursts that write R0, R2 and R3 use it through `store_all`.
use mathlib.Core.Path.{◌≡◌, refl, sym, ap, ap₂, ◌∙◌}
use mathlib.Core.List.{List, [], ◌∷◌}
use Prim.Native.Nat.{ℕ, suc, ◌+◌, ◌-◌, ◌≤◌, ◌<◌, min}
use native.Mathlib.Nat.{add-zero, min-eq_left, min-eq_right}
use native.Mathlib.Decide.{dec_lt}
use native.Mathlib.Omega.{arith}
use lib.ListN.{length, get_or, set, take, length-take}
use lib.Seq.{sets, take_all, take-length}
use borrow.Author.Tests.{le-leb, lt-leb}
use Rattle.model.specs.Spi.{burst_to}
use Rattle.bursts.specs.Burst.{Filling, filling, fill_to, stored_to, copied_to}

-- ---- one by one

-- at the limit every byte is ignored: the buffer is full, or the chip's
pub stores_none : (start limit : ℕ) (bs : List ℕ) (s : Filling) → limit ≤ s.position → stored_to start limit s bs ≡ s
unfolding burst_to
stores_none start limit [] s full = refl
stores_none start limit (b ∷ bs) s full = rw (le-leb limit s.position full) (stores_none start limit bs s full)

-- one byte is sent, below the limit
pub one_stored : (start limit : ℕ) (bs : List ℕ) (s : Filling) → s.position < limit → length bs ≡ 1
    → filling (set s.bytes (start + s.position) (get_or bs 0 0)) (s.position + 1) ≡ stored_to start limit s bs
unfolding burst_to
one_stored start limit [] s room one = absurd (omega (arith, one))
one_stored start limit (b ∷ []) s room one = rw (lt-leb limit s.position room)
one_stored start limit (b ∷ x ∷ xs) s room one = absurd (omega (arith, one))

-- ---- at once

copies_none : (start limit : ℕ) (bs : List ℕ) (s : Filling) → take (limit - s.position) bs ≡ [] → copied_to start limit s bs ≡ s
copies_none start limit bs s none = rw (none, add-zero)

copies_first : (start limit b : ℕ) (bs : List ℕ) (s : Filling) → s.position < limit
    → copied_to start limit s (b ∷ bs) ≡ copied_to start limit (fill_to start limit s b) bs
copies_first start limit b bs s room =
    let more : limit - s.position ≡ suc (limit - (s.position + 1)) = omega arith in
    let next : suc (start + s.position) ≡ start + (s.position + 1) = omega arith in
    let vs = take (limit - (s.position + 1)) bs in
    let moved : s.position + suc (length vs) ≡ (s.position + 1) + length vs = omega arith in
    rw (lt-leb limit s.position room, more) (ap₂ filling (ap (λ (k : ℕ). sets (set s.bytes (start + s.position) b) k vs) next) moved)

pub copied_is_stored : (start limit : ℕ) (bs : List ℕ) (s : Filling) → copied_to start limit s bs ≡ stored_to start limit s bs
unfolding burst_to
copied_is_stored start limit [] s = copies_none start limit [] s (take_all (limit - s.position) [] (omega arith))
copied_is_stored start limit (b ∷ bs) s =
    elim (dec_lt s.position limit) [
      | yes room ↦ copies_first start limit b bs s room ∙ copied_is_stored start limit bs (fill_to start limit s b)
      | no g ↦
          let full : limit ≤ s.position = omega arith in
          let none : limit - s.position ≡ 0 = omega arith in
          copies_none start limit (b ∷ bs) s (ap (λ (k : ℕ). take k (b ∷ bs)) none) ∙ sym (stores_none start limit (b ∷ bs) s full)
    ]

-- ---- as the code copies: as many as there are and as there is room for

take_within : (n : ℕ) (l : List ℕ) → take (min n (length l)) l ≡ take n l
take_within n l =
    elim (dec_lt (length l) n) [
      | yes more ↦
          let least : min n (length l) ≡ length l = min-eq_right (omega arith) in
          rw (least, take-length l, take_all n l (omega arith))
      | no g ↦
          let least : min n (length l) ≡ n = min-eq_left (omega arith) in
          rw least
    ]

pub copied : (start limit position n : ℕ) (bytes bs : List ℕ) → n ≡ min (limit - position) (length bs)
    → filling (sets bytes (start + position) (take n bs)) (position + n) ≡ stored_to start limit (filling bytes position) bs
copied start limit position n bytes bs fits =
    let room = limit - position in
    let same : take n bs ≡ take room bs = ap (λ (k : ℕ). take k bs) fits ∙ take_within room bs in
    let long : n ≡ length (take room bs) = fits ∙ sym (length-take room bs) in
    ap₂ (λ (vs : List ℕ) (k : ℕ). filling (sets bytes (start + position) vs) (position + k)) same long
    ∙ copied_is_stored start limit bs (filling bytes position)
