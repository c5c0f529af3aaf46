-- Numbers as bytes, the low byte first (document 02, Ask 5).
use Rattle.std.specs.Prelude.{List, [], ◌∷◌, ℕ, zero, suc, ◌+◌, ◌*◌, ◌/◌, ◌%◌, ◌<◌, get_or, drop}

-- the k bytes of a number
abbrev pub little_endian : ℕ → ℕ → List ℕ
little_endian zero n = []
little_endian (suc k) n = n % 256 ∷ little_endian k (n / 256)

-- the number that the first k bytes of a list are
abbrev pub from_little_endian : ℕ → List ℕ → ℕ
from_little_endian zero xs = 0
from_little_endian (suc k) xs = get_or xs 0 0 + from_little_endian k (drop 1 xs) * 256

-- a list of bytes
abbrev pub Bytes : List ℕ → Type 0
Bytes xs = (i : ℕ) → get_or xs i 0 < 256
