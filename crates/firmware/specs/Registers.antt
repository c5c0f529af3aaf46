-- What an accepted request writes to R9 and R10 before the ACK, from the bytes that they held; other bits are kept
-- (docs/DECISIONS.md, entries 33 and 35).
use Rattle.std.specs.Prelude.{ℕ}
use Rattle.std.specs.Int.Bits.{bit_and, bit_or}
use Rattle.request.specs.declared.Endpoints.{Endpoints}
use Rattle.request.specs.declared.Endpoints.TheVariants.{Unchanged, ClearHalt, SetHalt, Configure}

-- R9, EPSTALLS: bit 4, STLEP3IN, halts endpoint 3 (000 page 63)
abbrev pub epstalls_of : Endpoints → ℕ → ℕ
epstalls_of Unchanged r9 = r9
epstalls_of ClearHalt r9 = bit_and r9 0xEF
epstalls_of SetHalt r9 = bit_or r9 0x10
epstalls_of Configure r9 = bit_and r9 0xEF

-- R10, CLRTOGS: a 1 in bit 4, 3 or 2 sets the toggle of endpoint 3, 2 or 1 to DATA0 (000 pages 8, 7, 6)
abbrev pub clrtogs_of : Endpoints → ℕ → ℕ
clrtogs_of Unchanged r10 = r10
clrtogs_of ClearHalt r10 = bit_or r10 0x10
clrtogs_of SetHalt r10 = r10
clrtogs_of Configure r10 = bit_or r10 0x1C
