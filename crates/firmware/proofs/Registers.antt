-- R9 keeps all bits but bit 4, and R10 all but bits 4, 3 and 2, whatever the byte.
use mathlib.Core.Path.{◌≡◌, refl, ◌∙◌}
use Prim.Native.Nat.{ℕ}
use lib.Bits.{bit_and, or_zero_r}
use Rattle.bits.proofs.Mask.{and_assoc, and_or}
use Rattle.request.specs.declared.Endpoints.{Endpoints}
use Rattle.request.specs.declared.Endpoints.TheVariants.{Unchanged, ClearHalt, SetHalt, Configure}
use Rattle.firmware.specs.Registers.{epstalls_of, clrtogs_of}

pub epstalls_keeps : (e : Endpoints) (r9 : ℕ) → bit_and (epstalls_of e r9) 0xEF ≡ bit_and r9 0xEF
epstalls_keeps Unchanged r9 = refl
epstalls_keeps ClearHalt r9 = and_assoc r9 0xEF 0xEF
epstalls_keeps SetHalt r9 = and_or r9 0x10 0xEF ∙ or_zero_r (bit_and r9 0xEF)
epstalls_keeps Configure r9 = and_assoc r9 0xEF 0xEF

pub clrtogs_keeps : (e : Endpoints) (r10 : ℕ) → bit_and (clrtogs_of e r10) 0xE3 ≡ bit_and r10 0xE3
clrtogs_keeps Unchanged r10 = refl
clrtogs_keeps ClearHalt r10 = and_or r10 0x10 0xE3 ∙ or_zero_r (bit_and r10 0xE3)
clrtogs_keeps SetHalt r10 = refl
clrtogs_keeps Configure r10 = and_or r10 0x1C 0xE3 ∙ or_zero_r (bit_and r10 0xE3)
