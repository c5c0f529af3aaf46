-- What is written reads back: the file of a lesson is read as that lesson.
use Rattle.std.proofs.Common.{◌≡◌, ℕ, suc, ◌+◌, ◌*◌, ◌<◌, ◌≤◌, true, List, [], ◌∷◌, ◌++◌, length, take, drop, sym, refl, ap, ◌∙◌, ap₂, append_assoc, append-nil, arith, length-append, take_at, drop_at, le-ltb, eq-eqb, le-leb}
use Rattle.little_endian.specs.Number.{little_endian}
use Rattle.lesson.specs.Lesson.{LessonEntry, IsLesson, HasFile, row, table, bodies, table_end, file_of}
use Rattle.lesson.specs.Read.{lesson, with_entry, row_fits, entry_of, row_offset, row_length}
use Rattle.lesson.specs.Read.{read_from, lesson_of, is_headed}
use Rattle.little_endian.proofs.Number.{reads_back}

pub table_length : (at : ℕ) (l : List LessonEntry) → length (table at l) ≡ 11 * length l
unfolding table
table_length at [] = refl
table_length at (e ∷ es) = omega (arith, table_length (at + length e.body) es)

-- a row that is there and fits is read, and the rest after it
pub read_row : (k i at : ℕ) (f xs : List ℕ) → 11 ≤ length xs → row_fits at xs ≡ true
    → read_from (suc k) i at f xs ≡ with_entry (entry_of at f xs) (read_from k (suc i) (at + row_length xs) f (drop 11 xs))
unfolding read_from
read_row k i at f xs h fits = rw (le-ltb (length xs) 11 h, fits)

-- the rest of a file: the rows of a lesson, and the bodies after what stands before them
read_back : (l : List LessonEntry) (i at : ℕ) (f p rest : List ℕ) → IsLesson l → f ≡ p ++ bodies l → length p ≡ at → 0 < at
    → length f ≤ 65536
    → read_from (length l) i at f (table at l ++ rest) ≡ lesson l
unfolding read_from table bodies IsLesson
read_back [] i at f p rest h e n z s =
    let whole : at ≡ length f = sym n ∙ ap length (sym (append-nil p) ∙ sym e) in
    rw (eq-eqb at (length f) whole)
read_back (x ∷ l) i at f p rest h e n z s =
    read_row (length l) i at f xs (omega arith) fits
    ∙ ap₂ with_entry same
    (ap (λ (m : ℕ). read_from (length l) (suc i) (at + m) f (table (at + length x.body) l ++ rest)) len
    ∙ read_back l (suc i) (at + length x.body) f (p ++ x.body) rest h.1 (e ∙ sym (append_assoc p x.body (bodies l)))
    (length-append p x.body ∙ ap (λ (m : ℕ). m + length x.body) n) (omega arith) s)
  where
    xs : List ℕ
    xs = row x.kind x.tick at (length x.body) ++ (table (at + length x.body) l ++ rest)

    sizes : length f ≡ at + (length x.body + length (bodies l))
    sizes = ap length e ∙ length-append p (x.body ++ bodies l) ∙ ap₂ (λ (a b : ℕ). a + b) n (length-append x.body (bodies l))

    len : row_length xs ≡ length x.body
    len = reads_back 2 (length x.body) (table (at + length x.body) l ++ rest) (omega (arith, sizes))

    fits : row_fits at xs ≡ true
    fits =
        rw h.0.kind
        (eq-eqb (row_offset xs) at
        (reads_back 4 at (little_endian 2 (length x.body) ++ (table (at + length x.body) l ++ rest)) (omega (arith, sizes))))

    part : take (length x.body) (drop at f) ≡ x.body
    part =
        ap (λ (l : List ℕ). take (length x.body) (drop at l)) e
        ∙ ap (take (length x.body)) (drop_at p (x.body ++ bodies l) at n)
        ∙ take_at x.body (bodies l) (length x.body) refl

    same : entry_of at f xs ≡ x
    same =
        ap₂ (λ (t : ℕ) (b : List ℕ). record { kind = x.kind; tick = t; body = b })
        (reads_back 4 x.tick (little_endian 4 at ++ (little_endian 2 (length x.body) ++ (table (at + length x.body) l ++ rest)))
        h.0.tick)
        (ap (λ (m : ℕ). take m (drop at f)) len ∙ part)

pub writes_read : (l : List LessonEntry) → HasFile l → lesson_of (file_of l) ≡ lesson l
unfolding file_of lesson_of
writes_read l w =
    rw headed (read_back l 0 (table_end (length l)) (file_of l) (1 ∷ length l ∷ table (table_end (length l)) l) (bodies l) w.each refl
    (ap (λ (n : ℕ). suc (suc n)) (table_length (table_end (length l)) l) ∙ omega arith) (omega arith) w.size)
  where
    headed : is_headed (file_of l) ≡ true
    headed = rw (le-leb 2 (length (file_of l)) (omega arith), le-leb (length (file_of l)) 65536 w.size)
