-- Where a burst that starts at a register leaves the FIFOs alone: the registers that are no FIFO, of those that are written (R0, R2, R3)
-- and of those that are read (R0, R1, R4).
use Rattle.std.specs.Prelude.{◌≡◌, ℕ}

abbrev pub WritesNoFifo : ℕ → Type 0
WritesNoFifo n = (n ≡ 0 → ⊥) × (n ≡ 2 → ⊥) × (n ≡ 3 → ⊥)

abbrev pub ReadsNoFifo : ℕ → Type 0
ReadsNoFifo n = (n ≡ 0 → ⊥) × (n ≡ 1 → ⊥) × (n ≡ 4 → ⊥)
