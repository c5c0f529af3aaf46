-- What the arguments of the exported functions mean.
use Rattle.std.specs.Prelude.{ℕ}
use Rattle.classroom_record.specs.declared.DeskNumber.{DeskNumber}

abbrev pub desk_number : ℕ → DeskNumber
desk_number n = record { 0 = n }
