-- The file of the lesson that the parts are, and what the test of the parts tells.
use mathlib.Core.Path.{◌≡◌, refl, sym, ap, ap₂, ◌∙◌}
use mathlib.Core.Bool.{true, ◌&&◌}
use mathlib.Core.List.{List, [], ◌∷◌, ◌++◌}
use Prim.Native.Nat.{ℕ, suc, ◌+◌, ◌*◌, ◌≤◌}
use native.Mathlib.Omega.{arith}
use lib.Dec.{eqb, leb}
use lib.ListN.{length, set, take, drop, length-append, length-take, length-drop, take-append-drop}
use lib.Seq.{sets}
use borrow.Author.Tests.{leb-true, eqb-true}
use Rattle.little_endian.proofs.Put.{put_put}
use Rattle.lesson.specs.Lesson.{row, table, bodies, table_end, file_of}
use Rattle.lesson.proofs.Write.{table_length}
use Rattle.bits.proofs.Cases.{and_true}
use Rattle.lesson_writer.specs.Parts.{lesson_from, rows, total, all_kinds, size_of, is_lesson, has_file}
use Rattle.lesson_writer.specs.Room.{Together}

-- ---- the table, the bodies and the number of entries are those of the parts

record Same (offset : ℕ) (ks ts ns bs : List ℕ) : Type 0 where
  table : table offset (lesson_from ks ts ns bs) ≡ rows offset ks ts ns
  bodies : bodies (lesson_from ks ts ns bs) ≡ bs
  count : length (lesson_from ks ts ns bs) ≡ length ks

same : (offset : ℕ) (ks ts ns bs : List ℕ) → length ts ≡ length ks → length ns ≡ length ks → total ns ≡ length bs → Same offset ks ts ns bs
unfolding lesson_from rows total table bodies
same offset [] [] [] [] a b s = record { table = refl; bodies = refl; count = refl }
same offset [] [] [] (x ∷ bs) a b s = absurd (omega arith)
same offset [] [] (n ∷ ns) bs a b s = absurd (omega arith)
same offset [] (t ∷ ts) ns bs a b s = absurd (omega arith)
same offset (k ∷ ks) [] ns bs a b s = absurd (omega arith)
same offset (k ∷ ks) (t ∷ ts) [] bs a b s = absurd (omega arith)
same offset (k ∷ ks) (t ∷ ts) (n ∷ ns) bs a b s =
    let len : length (take n bs) ≡ n = length-take n bs ∙ omega arith in
    let rest : Same (offset + n) ks ts ns (drop n bs) =
    same (offset + n) ks ts ns (drop n bs) (omega arith) (omega arith) (omega (arith, length-drop n bs)) in
    record {
      table =
          ap (λ (m : ℕ). row k t offset m ++ table (offset + m) (lesson_from ks ts ns (drop n bs))) len
          ∙ ap (λ (l : List ℕ). row k t offset n ++ l) rest.table;
      bodies = ap (λ (l : List ℕ). take n bs ++ l) rest.bodies ∙ take-append-drop n bs;
      count = ap suc rest.count;
    }

module _ (ks ts ns bs : List ℕ) (h : Together ks ts ns bs) where
  from_rows : (offset : ℕ) → Same offset ks ts ns bs
  from_rows offset = same offset ks ts ns bs h.ticks h.lengths h.whole

  pub from_count : length (lesson_from ks ts ns bs) ≡ length ks
  from_count = (from_rows 0).count

  pub rows_length : (offset : ℕ) → length (rows offset ks ts ns) ≡ 11 * length ks
  rows_length offset =
      ap length (sym (from_rows offset).table) ∙ table_length offset (lesson_from ks ts ns bs) ∙ ap (λ (n : ℕ). 11 * n) from_count

  pub from_file : file_of (lesson_from ks ts ns bs) ≡ 1 ∷ length ks ∷ rows (table_end (length ks)) ks ts ns ++ bs
  unfolding file_of
  from_file =
      ap (λ (n : ℕ). 1 ∷ n ∷ table (table_end n) (lesson_from ks ts ns bs) ++ bodies (lesson_from ks ts ns bs)) from_count
      ∙ ap₂ (λ (x y : List ℕ). 1 ∷ length ks ∷ x ++ y) (from_rows (table_end (length ks))).table (from_rows 0).bodies

  -- the size of the file
  pub size_is : length (file_of (lesson_from ks ts ns bs)) ≡ size_of ks bs
  size_is =
      ap length from_file
      ∙ omega (arith, length-append (rows (table_end (length ks)) ks ts ns) bs, rows_length (table_end (length ks)))

  -- the header, the table and the bodies that are put one after the other are the file
  pub put_file : (d d₁ d₂ : List ℕ) → d₁ ≡ sets (set (set d 0 1) 1 (length ks)) 2 (rows (table_end (length ks)) ks ts ns)
      → d₂ ≡ sets d₁ (table_end (length ks)) bs → d₂ ≡ sets d 0 (file_of (lesson_from ks ts ns bs))
  put_file d d₁ d₂ e₁ e₂ =
      let front : List ℕ = 1 ∷ length ks ∷ rows (table_end (length ks)) ks ts ns in
      let end : table_end (length ks) ≡ 0 + length front = omega (arith, rows_length (table_end (length ks))) in
      e₂ ∙ ap₂ (λ (l : List ℕ) (n : ℕ). sets l n bs) e₁ end ∙ put_put front bs d 0 ∙ ap (sets d 0) (sym from_file)

-- ---- what the test of the parts tells

pub record Told (ks ts ns bs : List ℕ) : Type 0 where
  pub count : length ks ≤ 255
  pub size : size_of ks bs ≤ 65536
  pub together : Together ks ts ns bs
  pub kinds : all_kinds ks ≡ true

pub told : (ks ts ns bs : List ℕ) → has_file ks ts ns bs ≡ true → Told ks ts ns bs
unfolding has_file
told ks ts ns bs h =
    let p = and_true (leb (length ks) 255 && leb (size_of ks bs) 65536) (is_lesson ks ts ns bs) h in
    let q = and_true (leb (length ks) 255) (leb (size_of ks bs) 65536) p.0 in
    let a = eqb (length ts) (length ks) in
    let b = eqb (length ns) (length ks) in
    let c = eqb (total ns) (length bs) in
    let p₃ = and_true (a && b && c) (all_kinds ks) p.1 in
    let p₂ = and_true (a && b) c p₃.0 in
    let p₁ = and_true a b p₂.0 in
    record {
      count = leb-true (length ks) 255 q.0;
      size = leb-true (size_of ks bs) 65536 q.1;
      together = record {
        ticks = eqb-true (length ts) (length ks) p₁.0;
        lengths = eqb-true (length ns) (length ks) p₁.1;
        whole = eqb-true (total ns) (length bs) p₂.1;
      };
      kinds = p₃.1;
    }
