-- What numbers look like in a script: hex digits of either case.
use Rattle.std.specs.Prelude.{cond, List, [], ◌∷◌, ℕ, ◌+◌, ◌-◌, ◌*◌, eqb, ltb, length, get_or, Option, Some, None, option_and_then}

-- 0 to 9, A to F and a to f; none for anything else
abbrev pub hex_digit : ℕ → Option ℕ
hex_digit b =
    cond (ltb b 48) None
    (cond (ltb b 58) (Some (b - 48))
    (cond (ltb b 65) None
    (cond (ltb b 71) (Some (b - 55))
    (cond (ltb b 97) None
    (cond (ltb b 103) (Some (b - 87)) None)))))

abbrev pub below : ℕ → Option ℕ → Option ℕ
below base None = None
below base (Some d) = cond (ltb d base) (Some d) None

-- a digit of a base up to 16
abbrev pub digit_of : ℕ → ℕ → Option ℕ
digit_of base b = below base (hex_digit b)

abbrev pub byte_of_digits : Option ℕ → Option ℕ → Option ℕ
byte_of_digits None l = None
byte_of_digits (Some h) None = None
byte_of_digits (Some h) (Some l) = Some (h * 16 + l)

-- one or two hex digits
unfoldable pub byte_of : List ℕ → Option ℕ
byte_of xs =
    cond (eqb (length xs) 1) (byte_of_digits (Some 0) (hex_digit (get_or xs 0 0)))
    (cond (eqb (length xs) 2) (byte_of_digits (hex_digit (get_or xs 0 0)) (hex_digit (get_or xs 1 0))) None)

-- a number with one more digit; from 2 to the 28 on it stays, so that it has 32 bits
abbrev pub grown : ℕ → ℕ → ℕ → Option ℕ
grown base n d = Some (cond (ltb n 268435456) (n * base + d) n)

-- the digits that are left, each taken in by the number so far
abbrev pub digits_from : (ℕ → ℕ → ℕ → Option ℕ) → ℕ → ℕ → List ℕ → Option ℕ
digits_from take base n [] = Some n
digits_from take base n (b ∷ bs) =
    option_and_then (λ m. digits_from take base m bs) (option_and_then (take base n) (digit_of base b))

-- digits of a base, at least one
unfoldable pub digits_of : (ℕ → ℕ → ℕ → Option ℕ) → ℕ → List ℕ → Option ℕ
digits_of take base xs = cond (eqb (length xs) 0) None (digits_from take base 0 xs)

-- the same, where a number that is too large counts as some number over 2 to the 28
abbrev pub number_of : ℕ → List ℕ → Option ℕ
number_of base xs = digits_of grown base xs

-- one to eight hex digits: none of them is lost
unfoldable pub hex_key_of : List ℕ → Option ℕ
hex_key_of xs = cond (ltb 8 (length xs)) None (number_of 16 xs)
