-- The library's test of two lists of numbers is the definition's.
use Rattle.std.proofs.Common.{◌≡◌, refl, ap, ℕ, Bool, List, [], ◌∷◌, nat_eq, ◌&&◌}
use Rattle.std.specs.Cmp.Lexicographic.{pointwise}
use Rattle.chip.specs.Same.{same_numbers}

pub same_numbers_is : (xs ys : List ℕ) → same_numbers xs ys ≡ pointwise nat_eq xs ys
same_numbers_is [] [] = refl
same_numbers_is [] (y ∷ ys) = refl
same_numbers_is (x ∷ xs) [] = refl
same_numbers_is (x ∷ xs) (y ∷ ys) = ap (λ (b : Bool). nat_eq x y && b) (same_numbers_is xs ys)
