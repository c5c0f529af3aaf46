-- What the check of a file finds at a row, and at the end.
use Rattle.std.proofs.Common.{◌&&◌, eqb, get_or-drop, add-zero, ◌≡◌, ℕ, suc, ◌+◌, ◌-◌, ◌*◌, ◌<◌, ◌≤◌, true, false, List, length, get_or, drop, sym, refl, ap, ◌∙◌, ap₂, add-one, arith, length-drop, drop-drop, le-ltb, lt-ltb, eq-eqb, ne_eqb}
use Rattle.refusal.specs.declared.Refusal.TheVariants.{NoLesson}
use Rattle.std.specs.Prelude.{Ok, Err}
use Rattle.lesson.specs.Lesson.{LessonEntry, table_end, is_kind}
use Rattle.little_endian.specs.Number.{from_little_endian}
use Rattle.lesson.specs.Read.{Reading, no_lesson, lesson, with_entry, row_fits, entry_of, row_length, read_from, lesson_of, is_headed}
use Rattle.lesson.specs.Read.{reading_checked}
use Rattle.lesson.proofs.Write.{read_row}

-- what is read at a place of the file is what is read at the start of the file from that place on
pub fits_at : (f : List ℕ) (place offset : ℕ) → (is_kind (get_or f place 0) && eqb (from_little_endian 4 (drop (place + 5) f)) offset) ≡ row_fits offset (drop place f)
fits_at f place offset = simp (get_or-drop, drop-drop, add-zero)

check_with : (e : LessonEntry) (r : Reading) → reading_checked (with_entry e r) ≡ reading_checked r
check_with e (no_lesson i) = refl
check_with e (lesson es) = refl

module _ (n i at : ℕ) (f : List ℕ) (more : i < n) where
  abbrev place : ℕ
  place = 2 + 11 * i

  next : n - i ≡ suc (n - (i + 1))
  next = omega arith

  pub row_missing : length f < place + 11 → Err (NoLesson i) ≡ reading_checked (read_from (n - i) i at f (drop place f))
  unfolding read_from
  row_missing h = rw (next, lt-ltb (length (drop place f)) 11 (omega (arith, length-drop place f)))

  pub row_unfit : place + 11 ≤ length f → row_fits at (drop place f) ≡ false
      → Err (NoLesson i) ≡ reading_checked (read_from (n - i) i at f (drop place f))
  unfolding read_from
  row_unfit h e = rw (next, le-ltb (length (drop place f)) 11 (omega (arith, length-drop place f)), e)

  pub row_read : place + 11 ≤ length f → row_fits at (drop place f) ≡ true
      → reading_checked (read_from (n - (i + 1)) (i + 1) (at + from_little_endian 2 (drop (place + 9) f)) f (drop (2 + 11 * (i + 1)) f))
      ≡ reading_checked (read_from (n - i) i at f (drop place f))
  row_read h e =
      let after : 2 + 11 * (i + 1) ≡ place + 11 = omega arith in
      ap (λ (m : ℕ). reading_checked (read_from (n - (i + 1)) (i + 1) (at + from_little_endian 2 (drop (place + 9) f)) f (drop m f))) after
      ∙ sym
      (ap (λ (k : ℕ). reading_checked (read_from k i at f (drop place f))) next
      ∙ ap reading_checked (read_row (n - (i + 1)) i at f (drop place f) (omega (arith, length-drop place f)) e)
      ∙ check_with (entry_of at f (drop place f)) (read_from (n - (i + 1)) (suc i) (at + row_length (drop place f)) f (drop 11 (drop place f)))
      ∙ ap₂ (λ (xs ys : List ℕ). reading_checked (read_from (n - (i + 1)) (suc i) (at + from_little_endian 2 xs) f ys)) (drop-drop 9 place f)
      (drop-drop 11 place f)
      ∙ ap (λ (k : ℕ). reading_checked (read_from (n - (i + 1)) k (at + from_little_endian 2 (drop (place + 9) f)) f (drop (place + 11) f)))
      (sym (add-one i)))

module _ (n i at : ℕ) (f xs : List ℕ) (within : i ≤ n) (done : n ≤ i) where
  last : n - i ≡ 0
  last = omega arith

  pub end_right : at ≡ length f → Ok tt ≡ reading_checked (read_from (n - i) i at f xs)
  unfolding read_from
  end_right e = rw (last, eq-eqb at (length f) e)

  pub end_wrong : (at ≡ length f → ⊥) → Err (NoLesson n) ≡ reading_checked (read_from (n - i) i at f xs)
  unfolding read_from
  end_wrong e = let same : n ≡ i = omega arith in rw (last, ne_eqb at (length f) e) (ap (λ (k : ℕ). Err (NoLesson k)) same)

-- ---- the loop over the rows: row i is next, its body must be at a place of the file

pub record Walked (f : List ℕ) (n i at : ℕ) : Type 0 where
  pub small : at ≤ 2807 + 65535 * i
  pub same : reading_checked (read_from (n - i) i at f (drop (2 + 11 * i) f)) ≡ reading_checked (read_from n 0 (table_end n) f (drop 2 f))

-- ---- the file's first two bytes and its size

pub headless : (f : List ℕ) → is_headed f ≡ false → Err (NoLesson 0) ≡ reading_checked (lesson_of f)
unfolding lesson_of
headless f t = rw t

pub headed : (f : List ℕ) → is_headed f ≡ true
    → reading_checked (read_from (get_or f 1 0) 0 (table_end (get_or f 1 0)) f (drop 2 f)) ≡ reading_checked (lesson_of f)
unfolding lesson_of
headed f t = rw t
