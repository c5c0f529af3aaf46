-- The bytes of a number are read back as that number, and bytes that are read as a number are its bytes. Any width.
use mathlib.Core.Path.{◌≡◌, refl, ap, ap₂, ◌∙◌}
use mathlib.Core.List.{List, [], ◌∷◌, ◌++◌}
use Prim.Native.Nat.{ℕ, zero, suc, ◌+◌, ◌*◌, ◌/◌, ◌%◌, ◌^◌, ◌≤◌, ◌<◌}
use native.Mathlib.Nat.{pow-suc}
use native.Mathlib.Omega.{arith}
use lib.ListN.{length, take}
use Rattle.little_endian.specs.Number.{little_endian, from_little_endian, Bytes}

pub little_endian_length : (k n : ℕ) → length (little_endian k n) ≡ k
little_endian_length zero n = refl
little_endian_length (suc k) n = ap suc (little_endian_length k (n / 256))

pub reads_back : (k n : ℕ) (rest : List ℕ) → n < 256 ^ k → from_little_endian k (little_endian k n ++ rest) ≡ n
reads_back zero n rest h = omega arith
reads_back (suc k) n rest h =
    let small : n < 256 ^ k * 256 = rw pow-suc at h in
    let next : from_little_endian k (little_endian k (n / 256) ++ rest) ≡ n / 256 = reads_back k (n / 256) rest (omega arith) in
    omega arith

pub from_small : (k : ℕ) (xs : List ℕ) → Bytes xs → from_little_endian k xs < 256 ^ k
from_small zero xs h = omega arith
from_small (suc k) [] h = rw pow-suc (omega (arith, from_small k [] h))
from_small (suc k) (x ∷ xs) h = rw pow-suc (omega (arith, h 0, from_small k xs (λ i. h (suc i))))

pub writes_back : (k : ℕ) (xs : List ℕ) → Bytes xs → k ≤ length xs → little_endian k (from_little_endian k xs) ≡ take k xs
writes_back zero xs h l = refl
writes_back (suc k) [] h l = absurd (omega arith)
writes_back (suc k) (x ∷ xs) h l =
    let b : x < 256 = h 0 in
    let low : (x + from_little_endian k xs * 256) % 256 ≡ x = omega arith in
    let high : (x + from_little_endian k xs * 256) / 256 ≡ from_little_endian k xs = omega arith in
    ap₂ (λ (y : ℕ) (ys : List ℕ). y ∷ ys) low (ap (little_endian k) high ∙ writes_back k xs (λ i. h (suc i)) (omega arith))
