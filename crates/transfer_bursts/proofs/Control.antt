-- A burst that starts at no FIFO steps to none; and what the last arm of the `match` on a register's number knows.
use mathlib.Core.Path.{◌≡◌, sym, ◌∙◌}
use mathlib.Core.List.{[], ◌∷◌}
use Prim.Native.Nat.{ℕ, ◌<◌, ◌≤◌}
use native.Mathlib.Decide.{dec_lt}
use native.Mathlib.Omega.{arith}
use borrow.Author.Tests.{lt-ltb, le-ltb}
use Rattle.chip.specs.declared.Chip.{Chip}
use Rattle.model.specs.Spi.{write_to, read_to}
use Rattle.rules.specs.Spi.{step_register, max3420e_spi}
use Rattle.registers.specs.Part.{plain_rule}
use Rattle.registers.proofs.Rest.{NoneOf, plain_others, kept_others}
use Rattle.transfer_bursts.specs.Control.{WritesNoFifo, ReadsNoFifo}

-- the FIFOs, R0 to R4, stay selected, and no other register steps to one
step_low : (n : ℕ) → n < 5 → step_register n ≡ n
step_low n l = rw (lt-ltb n 5 l)

step_high : (n : ℕ) → 5 ≤ n → 5 ≤ step_register n
step_high n h =
    elim (dec_lt n 20) [
      | yes l ↦ rw (le-ltb n 5 h, lt-ltb n 20 l) (omega arith)
      | no g ↦ rw (le-ltb n 5 h, le-ltb n 20 (omega arith)) h
    ]

step_none : (n k : ℕ) → k < 5 → (n ≡ k → ⊥) → step_register n ≡ k → ⊥
step_none n k small other e =
    elim (dec_lt n 5) [
      | yes l ↦ other (sym (step_low n l) ∙ e)
      | no g ↦
          let high : 5 ≤ step_register n = step_high n (omega arith) in
          omega arith
    ]

pub written_step : (n : ℕ) → WritesNoFifo n → WritesNoFifo (step_register n)
written_step n o =
    (step_none n 0 (omega arith) o.0, step_none n 2 (omega arith) o.1, step_none n 3 (omega arith) o.2)

pub read_step : (n : ℕ) → ReadsNoFifo n → ReadsNoFifo (step_register n)
read_step n o = (step_none n 0 (omega arith) o.0, step_none n 1 (omega arith) o.1, step_none n 4 (omega arith) o.2)

-- a read of no FIFO moves nothing
pub kept : (c : Chip) (n : ℕ) → ReadsNoFifo n → c ≡ read_to max3420e_spi c n
kept c n o = kept_others c n (((tt, o.0), o.1), o.2)

-- the arms of the `match`, and the FIFOs
pub plain : (c : Chip) (b n : ℕ) → WritesNoFifo n → NoneOf (15 ∷ 11 ∷ 10 ∷ 8 ∷ 7 ∷ 5 ∷ []) n → plain_rule n c b ≡ write_to max3420e_spi c n b
plain c b n w o =
    plain_others c b n
    (((((((((tt, w.0), w.1), w.2), o.0.0.0.0.0.1), o.0.0.0.0.1), o.0.0.0.1), o.0.0.1), o.0.1), o.1)
