-- Two firmware's records that are the same by the test are equal.
use mathlib.Core.Path.{◌≡◌}
use mathlib.Core.Bool.{true}
use lib.ListN.{get_or}
use Rattle.chip.proofs.Same.{same_each_law}
use Rattle.request.specs.declared.Firmware.{Firmware}
use Rattle.same.specs.Firmware.{firmware_numbers, same_firmware}

pub same_firmware_law : (a b : Firmware) → same_firmware a b ≡ true → a ≡ b
same_firmware_law a b e =
    let numbers = same_each_law (firmware_numbers a) (firmware_numbers b) e in
    λ i. record { configuration = get_or (numbers i) 0 0; wakeup = get_or (numbers i) 1 0; halted = get_or (numbers i) 2 0 }
