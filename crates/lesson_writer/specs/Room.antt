-- Which parts can be lent and belong together; what the functions of the writer ask of their callers.
use Rattle.std.specs.Prelude.{◌≡◌, List, ℕ, ◌+◌, ◌^◌, ◌≤◌, ◌<◌, length, get_or}
use Rattle.little_endian.specs.Number.{Bytes}
use Rattle.lesson.specs.Lesson.{table_end}
use Rattle.lesson_writer.specs.Parts.{total, size_of}

-- the parts belong together: a tick and a length for each kind, and the lengths are those of the bodies
pub record Together (ks ts ns bs : List ℕ) : Type 0 where
  pub ticks : length ts ≡ length ks
  pub lengths : length ns ≡ length ks
  pub whole : total ns ≡ length bs

-- ticks of 32 bits
abbrev pub Ticks : List ℕ → Type 0
Ticks ts = (i : ℕ) → get_or ts i 0 < 2 ^ 32

-- what slices of u8, u32, u16 and u8 hold
pub record Lendable (ks ts ns bs : List ℕ) : Type 0 where
  pub kinds : Bytes ks
  pub ticks : Ticks ts
  pub lengths : (i : ℕ) → get_or ns i 0 < 2 ^ 16
  pub bodies : Bytes bs

-- ---- the callers

pub record TableRoom (ks ts ns : List ℕ) (offset : ℕ) (buffer : List ℕ) : Type 0 where
  pub ticks : length ts ≡ length ks
  pub lengths : length ns ≡ length ks
  pub small : offset + total ns ≤ 65536
  pub room : table_end (length ks) ≤ length buffer

pub record FileRoom (ks ts ns bs buffer : List ℕ) : Type 0 where
  pub together : Together ks ts ns bs
  pub count : length ks ≤ 255
  pub size : size_of ks bs ≤ 65536
  pub room : size_of ks bs ≤ length buffer
