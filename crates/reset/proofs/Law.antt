-- The reset law: what register n reads after a reset is its row applied to what it read before, for each of the three
-- resets, every record and every n that has a row, 5 to 20.
use mathlib.Core.Path.{◌≡◌, sym, ap, ◌∙◌}
use mathlib.Core.List.{List, [], ◌∷◌}
use Prim.Native.Nat.{ℕ, zero, suc, ◌+◌, ◌-◌, ◌≤◌, ◌<◌}
use native.Mathlib.Nat.{add-zero, add-suc, suc-add}
use native.Mathlib.Omega.{arith}
use lib.ListN.{length, get_or}
use lib.Bits.{and_zero_r}
use Rattle.ring.specs.Ring.{oldest_count}
use Rattle.chip.specs.declared.Chip.{Chip}
use Rattle.chip.specs.Record.{control_registers, control_register}
use Rattle.reset.specs.declared.Reset.{Reset}
use Rattle.reset.specs.declared.Reset.TheVariants.{PowerOn, ChipReset, BusReset}
use Rattle.reset.specs.Table.{past_rows, register_after, all_after}
use Rattle.reset.specs.Reset.{chip_after}

all_at : (k : Reset) (n i : ℕ) (xs : List ℕ) → i < length xs → get_or (all_after k n xs) i 0 ≡ register_after k (n + i) (get_or xs i 0)
all_at k n i [] h = absurd (omega arith)
all_at k n zero (x ∷ xs) h = ap (λ (m : ℕ). register_after k m x) (sym (add-zero n))
all_at k n (suc i) (x ∷ xs) h =
    all_at k (suc n) i xs (omega arith) ∙ ap (λ (m : ℕ). register_after k m (get_or xs i 0)) (suc-add n i ∙ sym (add-suc n i))

-- R6 is read off the ring, and R18 is constant; every other register's field is the rule itself
registers_after_law : (k : Reset) (c : Chip) → control_registers (chip_after k c) ≡ all_after k 5 (control_registers c)
registers_after_law PowerOn c = rw (and_zero_r (oldest_count 2 c.ep1.ring))
registers_after_law ChipReset c = rw (and_zero_r (oldest_count 2 c.ep1.ring))
registers_after_law BusReset c = rw (and_zero_r (oldest_count 2 c.ep1.ring))

pub reset_law : (k : Reset) (c : Chip) (n : ℕ) → 5 ≤ n → n < past_rows → control_register (chip_after k c) n ≡ register_after k n
    (control_register c n)
reset_law k c n h l =
    let number : 5 + (n - 5) ≡ n = omega arith in
    ap (λ (xs : List ℕ). get_or xs (n - 5) 0) (registers_after_law k c)
    ∙ all_at k 5 (n - 5) (control_registers c) (omega arith)
    ∙ ap (λ (m : ℕ). register_after k m (control_register c n)) number
