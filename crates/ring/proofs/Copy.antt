-- What a copy of a whole slice does to the list around its target, and what it hands out. Any lists.
use mathlib.Core.Path.{◌≡◌, sym, ap, ◌∙◌}
use mathlib.Core.List.{List, ◌++◌, append_assoc, append-nil}
use Prim.Native.Nat.{ℕ, ◌+◌, ◌-◌, ◌≤◌}
use native.Mathlib.Omega.{arith}
use lib.ListN.{length, take, drop, length-drop, drop_of_length-le}
use lib.Seq.{sets, sets-eq, take_all, drop-drop}
use borrow.Rule.Slice.PartMut.{put_mid}

-- copied to the front of what a list has from place a on, vs is stored there element by element
pub copied_in : (xs vs : List ℕ) (a n : ℕ) → length xs ≡ n → a + length vs ≤ n
    → put_mid a (n - a) xs (vs ++ drop (length vs) (take (n - a) (drop a xs))) ≡ sets xs a vs
copied_in xs vs a n long fits =
    let rest : length (drop a xs) ≤ n - a = rw (length-drop a xs) (omega arith) in
    let within : a + length vs ≤ length xs = omega arith in
    rw (
      take_all (n - a) (drop a xs) rest,
      drop_of_length-le (drop a xs) rest,
      drop-drop (length vs) a xs,
      append-nil,
      sets-eq vs xs a within,
    )
    (sym (append_assoc (take a xs) vs (drop (a + length vs) xs)))

-- copied to the front of dst, src stands there, and the rest of dst stays
pub copied_out : (src p dst out : List ℕ) (n r : ℕ) → src ≡ p → length p ≡ n → r ≡ length src → out ≡ src ++ drop (length src) dst
    → (r ≡ n) × (out ≡ p ++ drop r dst)
copied_out src p dst out n r same long count copied = (
  count ∙ ap length same ∙ long,
  copied ∙ ap (λ (l : List ℕ). l ++ drop (length src) dst) same ∙ ap
      (λ (k : ℕ). p ++ drop k dst) (sym count),
)
