-- The tests of R5, R7 and R8 in one: a buffer is armed where nothing is against it.
use mathlib.Core.Path.{◌≡◌, refl, sym, ap, ap₂, ◌∙◌}
use mathlib.Core.Bool.{Bool, true, false, cond, not, ◌&&◌}
use mathlib.Core.List.{[], ◌∷◌}
use Prim.Native.Nat.{ℕ, suc}
use lib.Dec.{ltb, leb, leb-suc-suc}
use borrow.Author.Tests.{ltb-true, ltb-false, le-leb, lt-leb}
use Rattle.bits.specs.First.{unless}
use Rattle.rules.specs.Write.{arm_buffer}

le_not_lt : (a b : ℕ) → leb a b ≡ not (ltb b a)
le_not_lt a b = by (ltb b a) refl
  where
    by : (t : Bool) → ltb b a ≡ t → leb a b ≡ not t
    by true e = lt-leb a b (ltb-true b a e)
    by false e = le-leb a b (ltb-false b a e)

pub lt_not_le : (a b : ℕ) → ltb a b ≡ not (leb b a)
lt_not_le a b = le_not_lt (suc a) b ∙ ap not (leb-suc-suc b a)

neither : {A : Type 0} (s t : Bool) (x y : A) → cond (not s && not t) y x ≡ unless (s ∷ t ∷ []) x y
neither true t x y = refl
neither false true x y = refl
neither false false x y = refl

-- free: the buffer is not the chip's
pub arm_if : {S : Type 0} (n : ℕ) (chips free b : Bool) (x y : S) → free ≡ not chips → (leb n 64 && free) ≡ b
    → cond b y x ≡ arm_buffer n chips x y
arm_if n chips free b x y e f =
    ap (λ (t : Bool). cond t y x) (sym f ∙ ap₂ ◌&&◌ (le_not_lt n 64) e) ∙ neither (ltb 64 n) chips x y
