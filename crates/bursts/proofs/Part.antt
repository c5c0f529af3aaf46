-- A burst at a register that stays selected, on a part of a chip's state and put back, is the burst on the state. Over the SPI side of
-- any chip and any part.
use mathlib.Core.Path.{◌≡◌, refl, sym, ap, ap₂, ◌∙◌}
use mathlib.Core.Bool.{Bool}
use mathlib.Core.List.{List, [], ◌∷◌, ◌++◌}
use Prim.Native.Nat.{ℕ}
use lib.ListN.{length, take, drop}
use Rattle.model.specs.Reply.{Outcome}
use Rattle.model.specs.Spi.{Spi, byte_to, byte_of, burst_to, burst_of}
use Rattle.bursts.specs.Burst.{fifo_spi, Burst}

module _ {R S : Type 0} (f : Spi R) (write : S → ℕ → S) (read : S → Outcome S ℕ) (put : S → R) (w : Bool) (n : ℕ) (stays : f.step n ≡ n)
    (same : (s : S) (b : ℕ) → put (byte_to (fifo_spi write read) s w 0 b) ≡ byte_to f (put s) w n b) where
  pub part_to : (bs : List ℕ) (s : S) → put (burst_to (fifo_spi write read) s w 0 bs) ≡ burst_to f (put s) w n bs
  unfolding burst_to
  part_to [] s = refl
  part_to (b ∷ bs) s =
      part_to bs (byte_to (fifo_spi write read) s w 0 b) ∙ ap₂ (λ (c : R) (k : ℕ). burst_to f c w k bs) (same s b) (sym stays)

  part_of : ((s : S) → byte_of (fifo_spi write read) s w 0 ≡ byte_of f (put s) w n) → (bs : List ℕ) (s : S)
      → burst_of (fifo_spi write read) s w 0 bs ≡ burst_of f (put s) w n bs
  unfolding burst_of
  part_of alike [] s = refl
  part_of alike (b ∷ bs) s =
      ap₂ (λ (x : ℕ) (l : List ℕ). x ∷ l) (alike s) (part_of alike bs (byte_to (fifo_spi write read) s w 0 b) ∙ ap₂
      (λ (c : R) (k : ℕ). burst_of f c w k bs) (same s b) (sym stays))

  pub put_back : ((s : S) → byte_of (fifo_spi write read) s w 0 ≡ byte_of f (put s) w n) → (bytes reply out : List ℕ) (s after : S)
      → Burst (fifo_spi write read) s after w 0 bytes reply out → Burst f (put s) (put after) w n bytes reply out
  put_back alike bytes reply out s after done = (
    ap put done.0 ∙ part_to (drop 1 bytes) s,
    done.1 ∙ ap (λ (l : List ℕ). take 1 reply ++ l ++ drop (length bytes) reply) (part_of alike (drop 1 bytes) s),
  )
