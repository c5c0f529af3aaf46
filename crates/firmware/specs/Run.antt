-- Calls in a row.
use Rattle.std.specs.Prelude.{List, [], ◌∷◌, ℕ}
use Rattle.request.specs.declared.Firmware.{Firmware}
use Rattle.firmware.specs.Answer.{handled}

-- a call: the setup bytes, and the reply buffer that is lent
abbrev pub Question : Type 0
Question = List ℕ × List ℕ

-- the record after some calls, each on the record that the one before handed back
unfoldable pub record_after : Firmware → List Question → Firmware
record_after f [] = f
record_after f (call ∷ calls) = record_after (handled call.0 f call.1).answer.firmware calls
