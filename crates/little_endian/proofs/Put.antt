-- Runs of bytes that are put one after the other.
use mathlib.Core.Path.{◌≡◌, ap, ◌∙◌}
use mathlib.Core.List.{List, [], ◌∷◌, ◌++◌}
use Prim.Native.Nat.{ℕ, suc, ◌+◌, ◌≤◌}
use native.Mathlib.Nat.{add-zero}
use native.Mathlib.Omega.{arith}
use lib.ListN.{length, set, drop}
use lib.Seq.{sets, sets-eq}

-- a run and the run after it are one run
pub put_put : (vs ws xs : List ℕ) (i : ℕ) → sets (sets xs i vs) (i + length vs) ws ≡ sets xs i (vs ++ ws)
put_put [] ws xs i = ap (λ (k : ℕ). sets xs k ws) (add-zero i)
put_put (v ∷ vs) ws xs i =
    let next : i + suc (length vs) ≡ suc i + length vs = omega arith in
    ap (λ (k : ℕ). sets (sets (set xs i v) (suc i) vs) k ws) next ∙ put_put vs ws (set xs i v) (suc i)

-- put at the start, a run stands there, and the rest stays
pub put_first : (vs xs : List ℕ) → length vs ≤ length xs → sets xs 0 vs ≡ vs ++ drop (length vs) xs
put_first vs xs h =
    let none : 0 + length vs ≡ length vs = omega arith in
    sets-eq vs xs 0 (omega arith) ∙ ap (λ (k : ℕ). vs ++ drop k xs) none
