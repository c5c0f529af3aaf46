-- The reply bytes of a write are 0, for the SPI side of any chip; and how they are cleared.
use mathlib.Core.Path.{◌≡◌, refl, sym, ap, ◌∙◌}
use mathlib.Core.Bool.{true}
use mathlib.Core.List.{List, [], ◌∷◌, ◌++◌, append_assoc}
use Prim.Native.Nat.{ℕ, zero, suc, ◌-◌, ◌<◌, ◌≤◌}
use native.Mathlib.Nat.{not-suc-le-zero, le_of_suc-le-suc}
use native.Mathlib.Omega.{arith}
use lib.ListN.{length, set, take, drop, replicate, length-drop}
use lib.Seq.{length-take-le, take_all}
use borrow.Rule.Slice.PartMut.{put_mid, Post-is}
use Rattle.model.specs.Spi.{Spi, byte_to, burst_to, burst_of}
use Rattle.bursts.specs.Burst.{Burst}

module _ {R : Type 0} (f : Spi R) where
  pub written_replies : (c : R) (r : ℕ) (bs : List ℕ) → burst_of f c true r bs ≡ replicate (length bs) 0
  unfolding burst_of
  written_replies c r [] = refl
  written_replies c r (b ∷ bs) = ap (λ (l : List ℕ). 0 ∷ l) (written_replies (byte_to f c true r b) (f.step r) bs)

  -- a write in two parts: the record by the bytes sent, and their places in the reply cleared
  pub written_parts : (c after : R) (r : ℕ) (bytes reply part : List ℕ) → 0 < length bytes → length bytes ≤ length reply
      → after ≡ burst_to f c true r (take (length bytes - 1) (drop 1 bytes))
      → part ≡ replicate (length (take (length bytes - 1) (drop 1 reply))) 0
      → Burst f c after true r bytes reply (put_mid 1 (length bytes - 1) reply part)
  written_parts c after r bytes reply part some room done cleared =
      let n = length bytes - 1 in
      let sent : length (drop 1 bytes) ≡ n = length-drop 1 bytes in
      let lent : length (drop 1 reply) ≡ length reply - 1 = length-drop 1 reply in
      let long : length (take n (drop 1 reply)) ≡ n = length-take-le n (drop 1 reply) (omega arith) in
      let zeros : part ≡ burst_of f c true r (drop 1 bytes) =
      cleared ∙ ap (λ (k : ℕ). replicate k 0) (long ∙ sym sent) ∙ sym (written_replies c r (drop 1 bytes)) in (
        done ∙ ap (burst_to f c true r) (take_all n (drop 1 bytes) (omega arith)),
        rw (zeros, Post-is 1 (length bytes) reply (omega arith)) (sym (append_assoc (take 1 reply) _ _)),
      )

-- ---- a list is cleared from its front on

pub cleared_one : (xs : List ℕ) → length xs ≡ 1 → set xs 0 0 ≡ replicate (length xs) 0
cleared_one [] one = absurd (omega (arith, one))
cleared_one (x ∷ []) one = refl
cleared_one (x ∷ y ∷ ys) one = absurd (omega (arith, one))

-- one byte more
pub cleared_step : (xs : List ℕ) (i : ℕ) → i < length xs → set (replicate i 0 ++ drop i xs) i 0 ≡ replicate (suc i) 0 ++ drop (suc i) xs
cleared_step [] i h = absurd (not-suc-le-zero h)
cleared_step (x ∷ xs) zero h = refl
cleared_step (x ∷ xs) (suc i) h = ap (λ (l : List ℕ). 0 ∷ l) (cleared_step xs i (le_of_suc-le-suc h))
