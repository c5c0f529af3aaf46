-- A claim about each of a run of numbers, row by row, and what it tells of one of them; a claim about each number of a list.
use mathlib.Core.Path.{sym, ◌∙◌, subst}
use mathlib.Core.List.{List}
use Prim.Native.Nat.{ℕ, zero, suc, ◌+◌, ◌≤◌, ◌<◌}
use native.Mathlib.Nat.{add-zero, add-suc, suc-add, zero-add}
use native.Mathlib.Omega.{arith}
use native.Mathlib.Decide.{dec_lt, ℕ_discrete}
use lib.ListN.{length, get_or, set}
use lib.Seq.{get_or-set_same, get_or-set_other, set_out}

infixr 20 ◌⨾◌
-- P of n, n + 1 and so on, k of them
pub data Rows (P : ℕ → Type 0) : ℕ → ℕ → Type 0 where
  none : {n : ℕ} → Rows P n 0
  ◌⨾◌ : {n k : ℕ} → P n → Rows P (suc n) k → Rows P n (suc k)

row_at : (P : ℕ → Type 0) {n k : ℕ} → Rows P n k → (i : ℕ) → i < k → P (n + i)
row_at P none i h = absurd (omega arith)
row_at P {n} (p ⨾ rows) zero h = subst P (sym (add-zero n)) p
row_at P {n} (p ⨾ rows) (suc i) h = subst P (suc-add n i ∙ sym (add-suc n i)) (row_at P rows i (omega arith))

-- of every number: by its row, or as one past the last row
pub rows_all : (P : ℕ → Type 0) (k : ℕ) → Rows P 0 k → ((n : ℕ) → k ≤ n → P n) → (n : ℕ) → P n
rows_all P k rows past n = elim (dec_lt n k) [
  | yes h ↦ subst P (zero-add n) (row_at P rows n h)
  | no g ↦ past n (omega arith)
]

-- ---- a claim on each place of a list

-- one number of the list is replaced by one of which it holds
pub set_keeps : (P : ℕ → ℕ → Type 0) (xs : List ℕ) (i x : ℕ) → ((j : ℕ) → P j (get_or xs j 0)) → P i x → (j : ℕ) → P j (get_or (set xs i x) j 0)
set_keeps P xs i x h new j = elim (ℕ_discrete j i) [
  | yes e ↦
      elim (dec_lt i (length xs)) [
        | yes l ↦ rw (e, get_or-set_same xs i x 0 l) new
        | no g ↦ rw (set_out xs i x (omega arith)) (h j)
      ]
  | no e ↦ rw (get_or-set_other xs i j x 0 e) (h j)
]
