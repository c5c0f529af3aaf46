-- What a read of a FIFO gives and moves: a byte and a move on, or 0 and none.
use mathlib.Core.Path.{◌≡◌, refl}
use mathlib.Core.Bool.{Bool, true, false, cond}
use Prim.Native.Nat.{ℕ, ◌+◌}
use Rattle.chip.specs.declared.Chip.{Chip}
use Rattle.rules.specs.Read.{read_fifo}

pub fifo_gives : (left : Bool) (byte : ℕ) (moved c : Chip) → cond left byte 0 ≡ (read_fifo left byte moved c).gives
fifo_gives true byte moved c = refl
fifo_gives false byte moved c = refl

-- the position moves, or the record stays
pub fifo_state : (left : Bool) (byte p : ℕ) (put : ℕ → Chip) → put (cond left (p + 1) p) ≡ (read_fifo left byte (put (p + 1)) (put p)).state
fifo_state true byte p put = refl
fifo_state false byte p put = refl
