-- A file that reads as a lesson says how many entries the lesson has, and holds their bodies.
use Rattle.std.proofs.Common.{◌≡◌, ℕ, zero, suc, ◌+◌, ◌≤◌, cond, ◌&&◌, eqb, ltb, leb, List, [], length, get_or, take, drop, sym, refl, ap, ◌∙◌, arith, length-append, length-drop, length-take-le, eqb-true, leb-true}
use Rattle.lesson.specs.Lesson.{LessonEntry, table_end, bodies}
use Rattle.lesson.specs.Read.{Reading, no_lesson, lesson, with_entry, row_fits, entry_of, row_length, read_from, lesson_of, is_headed}
use Rattle.lesson.specs.Read.{entries_of, reading_checked}
use Rattle.bits.proofs.Cases.{and_true}
use Rattle.lesson.proofs.Read.{taken, left, more}
use Rattle.std.specs.Prelude.{Ok}

count_from : (k i at : ℕ) (f xs : List ℕ) (l : List LessonEntry) → read_from k i at f xs ≡ lesson l → length l ≡ k
unfolding read_from
count_from zero i at f xs l h = ap (λ (r : Reading). length (entries_of r)) (sym (taken (eqb at (length f)) (lesson []) i l h).1)
count_from (suc k) i at f xs l h =
    let a = left (ltb (length xs) 11) (cond (row_fits at xs) (with_entry (entry_of at f xs) next) (no_lesson i)) i l h in
    let b = taken (row_fits at xs) (with_entry (entry_of at f xs) next) i l a.1 in
    let m = more (entry_of at f xs) next l b.1 in
    ap length m.1.1 ∙ ap suc (count_from k (suc i) (at + row_length xs) f (drop 11 xs) m.0 m.1.0)
  where
    next : Reading
    next = read_from k (suc i) (at + row_length xs) f (drop 11 xs)

pub entry_count : (f : List ℕ) (l : List LessonEntry) → lesson_of f ≡ lesson l → length l ≡ get_or f 1 0
unfolding lesson_of
entry_count f l h =
    let t = taken (is_headed f) (read_from (get_or f 1 0) 0 (table_end (get_or f 1 0)) f (drop 2 f)) 0 l h in
    count_from (get_or f 1 0) 0 (table_end (get_or f 1 0)) f (drop 2 f) l t.1

-- such a file has its first two bytes, and 64 KiB at the most
pub headed_size : (f : List ℕ) (l : List LessonEntry) → lesson_of f ≡ lesson l → (2 ≤ length f) × (length f ≤ 65536)
unfolding lesson_of
headed_size f l h =
    let t = taken (is_headed f) (read_from (get_or f 1 0) 0 (table_end (get_or f 1 0)) f (drop 2 f)) 0 l h in
    let p = and_true (leb 2 (length f) && leb (length f) 65536) (eqb (get_or f 0 0) 1) t.0 in
    let q = and_true (leb 2 (length f)) (leb (length f) 65536) p.0 in
    (leb-true 2 (length f) q.0, leb-true (length f) 65536 q.1)

-- a reading that is accepted is that of its entries
accepted_reading : (r : Reading) → reading_checked r ≡ Ok tt → r ≡ lesson (entries_of r)
accepted_reading (lesson l) h = refl
accepted_reading (no_lesson i) h = cc

pub accepted_lesson : (f : List ℕ) → reading_checked (lesson_of f) ≡ Ok tt → lesson_of f ≡ lesson (entries_of (lesson_of f))
accepted_lesson f h = accepted_reading (lesson_of f) h

-- ---- where the bodies are

-- the bodies of the entries that are left end where the file does
bodies_from : (k i at : ℕ) (f xs : List ℕ) (l : List LessonEntry) → read_from k i at f xs ≡ lesson l → at + length (bodies l) ≡ length f
unfolding read_from bodies
bodies_from zero i at f xs l h =
    let t = taken (eqb at (length f)) (lesson []) i l h in
    let whole : at ≡ length f = eqb-true at (length f) t.0 in
    ap (λ (r : Reading). at + length (bodies (entries_of r))) (sym t.1) ∙ omega arith
bodies_from (suc k) i at f xs l h =
    let a = left (ltb (length xs) 11) (cond (row_fits at xs) (with_entry (entry_of at f xs) next) (no_lesson i)) i l h in
    let b = taken (row_fits at xs) (with_entry (entry_of at f xs) next) i l a.1 in
    let m = more (entry_of at f xs) next l b.1 in
    let rest : at + row_length xs + length (bodies m.0) ≡ length f =
    bodies_from k (suc i) (at + row_length xs) f (drop 11 xs) m.0 m.1.0 in
    let body : length (take (row_length xs) (drop at f)) ≡ row_length xs =
    length-take-le (row_length xs) (drop at f) (omega (arith, length-drop at f)) in
    ap (λ (es : List LessonEntry). at + length (bodies es)) m.1.1
    ∙ omega (arith, length-append (take (row_length xs) (drop at f)) (bodies m.0))
  where
    next : Reading
    next = read_from k (suc i) (at + row_length xs) f (drop 11 xs)

-- no more bytes than the file has
pub bodies_most : (f : List ℕ) (l : List LessonEntry) → lesson_of f ≡ lesson l → length (bodies l) ≤ length f
unfolding lesson_of
bodies_most f l h =
    let t = taken (is_headed f) (read_from (get_or f 1 0) 0 (table_end (get_or f 1 0)) f (drop 2 f)) 0 l h in
    omega (arith, bodies_from (get_or f 1 0) 0 (table_end (get_or f 1 0)) f (drop 2 f) l t.1)
