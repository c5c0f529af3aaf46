-- The tables hold what 003 prints, state their lengths rightly, and are at most 64 bytes long: each by one computed test.
use mathlib.Core.Path.{◌≡◌, refl}
use mathlib.Core.Bool.{Bool, true, ◌&&◌, and-eq-true_iff}
use mathlib.Core.List.{List, [], ◌∷◌, ◌++◌, map}
use Prim.Native.Nat.{ℕ, zero, suc, ◌+◌, ◌*◌, ◌≤◌}
use borrow.Author.Tests.{leb-true}
use lib.Dec.{leb, lit≤}
use lib.ListN.{length, get_or}
use Rattle.descriptor.specs.Table.{device, configuration, hid, report, strings, data_bytes}
use Rattle.descriptor.specs.Printed.{printed, found}
use Rattle.descriptor.specs.declared.Data.{Data}
use Rattle.descriptor.specs.declared.Data.TheVariants.{Status, Byte, Device, Configuration, Hid, Report, String}

pub as_printed : map found printed ≡ printed
as_printed = refl

-- ---- the lengths that the tables state

abbrev word_at : List ℕ → ℕ → ℕ
word_at table i = get_or table i 0 + 256 * get_or table (suc i) 0

-- bLength of the device descriptor and of each string, wTotalLength of the configuration, the report's length in the HID descriptor
abbrev stated : List ℕ
stated = map (λ (table : List ℕ). get_or table 0 0) (device ∷ strings) ++ (word_at configuration 2 ∷ word_at hid 7 ∷ [])

pub lengths_stated : stated ≡ map length ((device ∷ strings) ++ (configuration ∷ report ∷ []))
lengths_stated = refl

-- ---- at most 64 bytes

abbrev every : {A : Type 0} → (A → Bool) → List A → Bool
every p [] = true
every p (x ∷ xs) = p x && every p xs

-- what every entry passes, and what stands for no entry, is passed at any place
every_get_or : {A : Type 0} (p : A → Bool) (xs : List A) (z : A) → every p xs ≡ true → p z ≡ true → (i : ℕ) → p (get_or xs i z) ≡ true
every_get_or p [] z t e i = e
every_get_or p (x ∷ xs) z t e zero = ((and-eq-true_iff (p x) (every p xs)).0 t).0
every_get_or p (x ∷ xs) z t e (suc i) = every_get_or p xs z ((and-eq-true_iff (p x) (every p xs)).0 t).1 e i

abbrev tables : List (List ℕ)
tables = device ∷ configuration ∷ hid ∷ report ∷ strings

short : (i : ℕ) → length (get_or tables i []) ≤ 64
short i = leb-true _ 64 (every_get_or (λ (table : List ℕ). leb (length table) 64) tables [] refl refl i)

pub bytes_fit : (d : Data) → length (data_bytes d) ≤ 64
bytes_fit (Status b) = lit≤ tt
bytes_fit (Byte b) = lit≤ tt
bytes_fit Device = short 0
bytes_fit Configuration = short 1
bytes_fit Hid = short 2
bytes_fit Report = short 3
bytes_fit (String i) = short (suc (suc (suc (suc i))))
