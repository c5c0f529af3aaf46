-- The ticks that have elapsed are the one number below 2 to the 32 that leads from one tick to the other, modulo 2 to the 32.
use Rattle.std.proofs.Common.{◌≡◌, ℕ, ◌+◌, ◌-◌, ◌%◌, ◌^◌, ◌<◌, ◌≤◌, arith}
use Rattle.lesson.specs.Ticks.{elapsed_ticks}

pub elapsed_small : (start end : ℕ) → elapsed_ticks start end < 2 ^ 32
elapsed_small start end = omega arith

pub elapsed_leads : (start end : ℕ) → start < 2 ^ 32 → end < 2 ^ 32 → (start + elapsed_ticks start end) % 2 ^ 32 ≡ end
elapsed_leads start end a b = omega arith

pub elapsed_only : (start end n : ℕ) → start < 2 ^ 32 → end < 2 ^ 32 → n < 2 ^ 32 → (start + n) % 2 ^ 32 ≡ end → n ≡ elapsed_ticks start end
elapsed_only start end n a b c e = omega arith

-- where the ticks have not wrapped it is the plain difference
pub elapsed_unwrapped : (start end : ℕ) → start ≤ end → end < 2 ^ 32 → elapsed_ticks start end ≡ end - start
elapsed_unwrapped start end a b = omega arith
