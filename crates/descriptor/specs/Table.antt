-- The descriptors. 003 prints some of their bytes (specs/Printed.antt); the rest is ours (docs/DECISIONS.md, entry 31).
-- Words have their low byte first.
use Rattle.std.specs.Prelude.{List, [], ◌∷◌, ◌++◌, ℕ, ◌+◌, ◌*◌, ◌/◌, ◌%◌, get_or}
use Prim.Native.Char.{code}
use Prim.Native.String.{String as Text, [] as []ᵀ, ◌∷◌ as ◌∷ᵀ◌, count}
use Rattle.descriptor.specs.declared.Data.{Data}
use Rattle.descriptor.specs.declared.Data.TheVariants.{Status, Byte, Device, Configuration, Hid, Report, String}

abbrev pub device : List ℕ
device = 0x12 ∷ 0x01 ∷ 0x00 ∷ 0x01 ∷ 0x00 ∷ 0x00 ∷ 0x00 ∷ 0x40 ∷ 0x6A ∷ 0x0B ∷ 0x46 ∷ 0x53 ∷ 0x34 ∷ 0x12 ∷ 0x01 ∷ 0x02 ∷ 0x03 ∷ 0x01 ∷ []

abbrev pub hid : List ℕ
hid = 0x09 ∷ 0x21 ∷ 0x10 ∷ 0x01 ∷ 0x00 ∷ 0x01 ∷ 0x22 ∷ 0x2B ∷ 0x00 ∷ []

-- the configuration with its one interface, the HID descriptor and endpoint 83
abbrev pub configuration : List ℕ
configuration =
    (0x09 ∷ 0x02 ∷ 0x22 ∷ 0x00 ∷ 0x01 ∷ 0x01 ∷ 0x00 ∷ 0xE0 ∷ 0x01 ∷ [])
    ++ (0x09 ∷ 0x04 ∷ 0x00 ∷ 0x00 ∷ 0x01 ∷ 0x03 ∷ 0x00 ∷ 0x00 ∷ 0x00 ∷ [])
    ++ hid
    ++ (0x07 ∷ 0x05 ∷ 0x83 ∷ 0x03 ∷ 0x40 ∷ 0x00 ∷ 0x0A ∷ [])

abbrev pub report : List ℕ
report =
    0x05 ∷ 0x01 ∷ 0x09 ∷ 0x06 ∷ 0xA1 ∷ 0x01 ∷ 0x05 ∷ 0x07 ∷ 0x19 ∷ 0xE0 ∷ 0x29 ∷ 0xE7
    ∷ 0x15 ∷ 0x00 ∷ 0x25 ∷ 0x01 ∷ 0x75 ∷ 0x01 ∷ 0x95 ∷ 0x08 ∷ 0x81 ∷ 0x02
    ∷ 0x95 ∷ 0x01 ∷ 0x75 ∷ 0x08 ∷ 0x81 ∷ 0x01 ∷ 0x19 ∷ 0x00 ∷ 0x29 ∷ 0x65
    ∷ 0x15 ∷ 0x00 ∷ 0x25 ∷ 0x65 ∷ 0x75 ∷ 0x08 ∷ 0x95 ∷ 0x01 ∷ 0x81 ∷ 0x00 ∷ 0xC0 ∷ []

-- a text in 16-bit characters
abbrev pub characters : Text → List ℕ
characters []ᵀ = []
characters (c ∷ᵀ s) = code c % 256 ∷ code c / 256 ∷ characters s

-- its string descriptor: the length, 03, the characters
abbrev pub string_of : Text → List ℕ
string_of s = (2 + 2 * count s) ∷ 0x03 ∷ characters s

-- by index: the languages (US English), the manufacturer, the product, the serial number
abbrev pub strings : List (List ℕ)
strings = (0x04 ∷ 0x03 ∷ 0x09 ∷ 0x04 ∷ []) ∷ string_of "Maxim" ∷ string_of "MAX3420E Enum Code" ∷ string_of "S/N 3420E" ∷ []

-- what there is to send; a string index that does not exist has no bytes
abbrev pub data_bytes : Data → List ℕ
data_bytes (Status b) = b ∷ 0x00 ∷ []
data_bytes (Byte b) = b ∷ []
data_bytes Device = device
data_bytes Configuration = configuration
data_bytes Hid = hid
data_bytes Report = report
data_bytes (String i) = get_or strings i []
