-- What 003 prints of the descriptors.
use Rattle.std.specs.Prelude.{List, [], ◌∷◌, ℕ, length, take, drop}
use Rattle.descriptor.specs.Table.{device, configuration, hid, report}

-- bytes that a table is to hold from a place on
pub record Bytes : Type 0 where
  pub table : List ℕ
  pub at : ℕ
  pub bytes : List ℕ

abbrev pub printed : List Bytes
printed =
    -- figure 12: the configuration descriptor
    record { table = configuration; at = 0; bytes = 0x09 ∷ 0x02 ∷ 0x22 ∷ 0x00 ∷ 0x01 ∷ 0x01 ∷ 0x00 ∷ 0xE0 ∷ 0x01 ∷ [] }
    -- section 1.2: vendor 0B6A, product 5346
    ∷ record { table = device; at = 8; bytes = 0x6A ∷ 0x0B ∷ 0x46 ∷ 0x53 ∷ [] }
    -- section 3.1: the device descriptor has 18 bytes
    ∷ record { table = device; at = 0; bytes = 18 ∷ [] }
    -- section 5, about descriptors: endpoint 0 has 64 bytes; the HID descriptor is at byte 18, the report's length at byte 25
    ∷ record { table = device; at = 7; bytes = 64 ∷ [] }
    ∷ record { table = configuration; at = 18; bytes = hid }
    ∷ record { table = configuration; at = 25; bytes = length report ∷ [] }
    -- sections 4.1 and 5.1: endpoint 83, interrupt
    ∷ record { table = configuration; at = 29; bytes = 0x83 ∷ 0x03 ∷ [] }
    -- section 5.3: interface 0 with setting 0
    ∷ record { table = configuration; at = 11; bytes = 0x00 ∷ 0x00 ∷ [] }
    ∷ []

-- the same with the bytes that stand there
abbrev pub found : Bytes → Bytes
found p = record { table = p.table; at = p.at; bytes = take (length p.bytes) (drop p.at p.table) }
