-- Whether two firmware's records are the same, number by number.
use Rattle.std.specs.Prelude.{Bool, List, [], ◌∷◌, ℕ}
use Rattle.bits.specs.Clauses.{clauses}
use Rattle.chip.specs.Same.{same_each}
use Rattle.request.specs.declared.Firmware.{Firmware}

abbrev pub firmware_numbers : Firmware → List ℕ
firmware_numbers f = f.configuration ∷ f.wakeup ∷ f.halted ∷ []

abbrev pub same_firmware : Firmware → Firmware → Bool
same_firmware a b = clauses (same_each (firmware_numbers a) (firmware_numbers b))
