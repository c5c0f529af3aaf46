-- The parts of a lesson, entry by entry: the row of the next entry and the rows after it; what the loops of the writer keep.
use Rattle.std.specs.List.{sum}
use Rattle.std.proofs.lemmas.List.Sums.{sum_by-cons}
use mathlib.Core.Path.{◌≡◌, refl, sym, ap, ◌∙◌}
use mathlib.Core.Bool.{Bool, ◌&&◌}
use mathlib.Core.List.{List, [], ◌∷◌, ◌++◌}
use Prim.Native.Nat.{ℕ, ◌+◌, ◌*◌, ◌≤◌, ◌<◌}
use native.Mathlib.Numerals.{add-one}
use native.Mathlib.Omega.{arith}
use lib.ListN.{length, set, drop, get_or}
use lib.Seq.{drop-cons, sets}
use Rattle.little_endian.specs.Number.{little_endian}
use Rattle.little_endian.proofs.Put.{put_put}
use Rattle.lesson.specs.Lesson.{is_kind, row}
use Rattle.lesson_writer.specs.Parts.{rows, total, all_kinds}

-- ---- the next entry, and those after it

pub rows_next : (i offset : ℕ) (ks ts ns : List ℕ) → i < length ks → i < length ts → i < length ns
    → rows offset (drop i ks) (drop i ts) (drop i ns)
    ≡ row (get_or ks i 0) (get_or ts i 0) offset (get_or ns i 0) ++ rows (offset + get_or ns i 0) (drop (i + 1) ks) (drop (i + 1) ts)
    (drop (i + 1) ns)
unfolding rows
rows_next i offset ks ts ns a b c = rw (add-one, drop-cons ks i 0, drop-cons ts i 0, drop-cons ns i 0)

pub total_next : (i : ℕ) (ns : List ℕ) → i < length ns → total (drop i ns) ≡ get_or ns i 0 + total (drop (i + 1) ns)
unfolding total
total_next i ns h = rw (add-one, drop-cons ns i 0)

-- the total is std's sum
pub total_sum : (ns : List ℕ) → sum ns ≡ total ns
unfolding total
total_sum [] = refl
total_sum (n ∷ ns) = sum_by-cons (λ (x : ℕ). x) n ns ∙ ap (λ (k : ℕ). n + k) (total_sum ns)

pub kinds_next : (i : ℕ) (ks : List ℕ) (t : Bool) → i < length ks → is_kind (get_or ks i 0) ≡ t
    → all_kinds (drop i ks) ≡ (t && all_kinds (drop (i + 1) ks))
kinds_next i ks t h e = rw (add-one, drop-cons ks i 0, e)

-- ---- a row, field by field

pub put_row : (d d₁ d₂ d₃ : List ℕ) (p k t o n : ℕ)
    → d₁ ≡ sets (set d p k) (p + 1) (little_endian 4 t)
    → d₂ ≡ sets d₁ (p + 5) (little_endian 4 o)
    → d₃ ≡ sets d₂ (p + 9) (little_endian 2 n)
    → d₃ ≡ sets d p (row k t o n)
put_row d d₁ d₂ d₃ p k t o n e₁ e₂ e₃ =
    e₃ ∙ ap (λ (l : List ℕ). sets l (p + 9) (little_endian 2 n)) two
    ∙ put_put (k ∷ little_endian 4 t ++ little_endian 4 o) (little_endian 2 n) d p
  where
    one : d₁ ≡ sets d p (k ∷ little_endian 4 t)
    one = e₁ ∙ put_put (k ∷ []) (little_endian 4 t) d p

    two : d₂ ≡ sets d p (k ∷ little_endian 4 t ++ little_endian 4 o)
    two = e₂ ∙ ap (λ (l : List ℕ). sets l (p + 5) (little_endian 4 o)) one ∙ put_put (k ∷ little_endian 4 t) (little_endian 4 o) d p

-- ---- the loop over the table: row i is next, at its place in the buffer d, its body at an offset; d₀ and o₀ were given

pub record Rows (ks ts ns : List ℕ) (o₀ : ℕ) (d₀ d : List ℕ) (i offset : ℕ) : Type 0 where
  pub sized : length d ≡ length d₀
  pub small : offset + total (drop i ns) ≤ 65536
  pub same : sets d (2 + 11 * i) (rows offset (drop i ks) (drop i ts) (drop i ns)) ≡ sets d₀ 2 (rows o₀ ks ts ns)

pub row_put : (ks ts ns d : List ℕ) (i offset : ℕ) → i < length ks → length ts ≡ length ks → length ns ≡ length ks
    → sets (sets d (2 + 11 * i) (row (get_or ks i 0) (get_or ts i 0) offset (get_or ns i 0))) (2 + 11 * (i + 1))
    (rows (offset + get_or ns i 0) (drop (i + 1) ks) (drop (i + 1) ts) (drop (i + 1) ns))
    ≡ sets d (2 + 11 * i) (rows offset (drop i ks) (drop i ts) (drop i ns))
row_put ks ts ns d i offset h a b =
    let here : List ℕ = row (get_or ks i 0) (get_or ts i 0) offset (get_or ns i 0) in
    let rest : List ℕ = rows (offset + get_or ns i 0) (drop (i + 1) ks) (drop (i + 1) ts) (drop (i + 1) ns) in
    let after : 2 + 11 * (i + 1) ≡ 2 + 11 * i + 11 = omega arith in
    ap (λ (p : ℕ). sets (sets d (2 + 11 * i) here) p rest) after
    ∙ put_put here rest d (2 + 11 * i)
    ∙ ap (sets d (2 + 11 * i)) (sym (rows_next i offset ks ts ns h (omega arith) (omega arith)))
