-- A file that is read as a lesson is the one file of that lesson, and the lesson has a file.
use Rattle.std.proofs.Common.{◌≡◌, ℕ, zero, suc, ◌+◌, ◌≤◌, Bool, true, false, cond, ◌&&◌, eqb, ltb, leb, List, [], ◌∷◌, ◌++◌, length, get_or, take, drop, sym, refl, ap, ◌∙◌, subst, ap₂, arith, length-append, length-drop, take-append-drop, drop_of_length-le, length-take, get_or-drop, drop-drop, take-add, drop_at, ltb-false, eqb-true, leb-true}
use Rattle.bits.proofs.Cases.{and_true}
use Rattle.little_endian.specs.Number.{little_endian, from_little_endian}
use Rattle.lesson.specs.Lesson.{LessonEntry, IsEntry, IsLesson, HasFile, row, table, bodies, table_end, file_of, is_kind}
use Rattle.little_endian.specs.Number.{Bytes}
use Rattle.lesson.specs.Read.{Reading, no_lesson, lesson, with_entry, row_fits, entry_of, row_kind, row_tick, row_offset, row_length}
use Rattle.lesson.specs.Read.{read_from, lesson_of, is_headed}
use Rattle.little_endian.proofs.Number.{writes_back, from_small}
use Rattle.lesson.proofs.Write.{table_length}

-- ---- a part of bytes is bytes

pub bytes_drop : (n : ℕ) (xs : List ℕ) → Bytes xs → Bytes (drop n xs)
bytes_drop n xs h i = rw get_or-drop (h (n + i))

pub bytes_take : (n : ℕ) (xs : List ℕ) → Bytes xs → Bytes (take n xs)
bytes_take zero xs h i = omega arith
bytes_take (suc n) [] h i = omega arith
bytes_take (suc n) (x ∷ xs) h zero = h 0
bytes_take (suc n) (x ∷ xs) h (suc i) = bytes_take n xs (λ j. h (suc j)) i

-- ---- a reading that is a lesson, taken apart

-- no row was refused
pub taken : (t : Bool) (r : Reading) (i : ℕ) (l : List LessonEntry) → cond t r (no_lesson i) ≡ lesson l → (t ≡ true) × (r ≡ lesson l)
taken true r i l e = (refl, e)
taken false r i l e = let z : ◌≡◌ {A = ℕ} 0 1 = cc in absurd (omega arith)

pub left : (t : Bool) (r : Reading) (i : ℕ) (l : List LessonEntry) → cond t (no_lesson i) r ≡ lesson l → (t ≡ false) × (r ≡ lesson l)
left false r i l e = (refl, e)
left true r i l e = let z : ◌≡◌ {A = ℕ} 0 1 = cc in absurd (omega arith)

pub more : (e : LessonEntry) (r : Reading) (l : List LessonEntry) → with_entry e r ≡ lesson l
    → (es : List LessonEntry) × ((r ≡ lesson es) × (l ≡ e ∷ es))
more e (lesson es) l h = (es, (refl, cc))
more e (no_lesson i) l h = let z : ◌≡◌ {A = ℕ} 0 1 = cc in absurd (omega arith)

-- ---- a row is that of its fields

pub row_of : (xs : List ℕ) → Bytes xs → 11 ≤ length xs → xs ≡ row (row_kind xs) (row_tick xs) (row_offset xs) (row_length xs) ++ drop 11 xs
row_of [] h l = absurd (omega arith)
row_of (x ∷ ys) h l = ap (λ (zs : List ℕ). x ∷ zs) (sym (fields ∙ whole))
  where
    b : Bytes ys
    b i = h (suc i)

    last : List ℕ
    last = little_endian 2 (from_little_endian 2 (drop 8 ys))

    fields : (little_endian 4 (from_little_endian 4 ys) ++ (little_endian 4 (from_little_endian 4 (drop 4 ys)) ++ last)) ++ drop 10 ys
        ≡ (take 4 ys ++ (take 4 (drop 4 ys) ++ take 2 (drop 8 ys))) ++ drop 10 ys
    fields =
        ap (λ (zs : List ℕ). (zs ++ (little_endian 4 (from_little_endian 4 (drop 4 ys)) ++ last)) ++ drop 10 ys)
        (writes_back 4 ys b (omega arith))
        ∙ ap (λ (zs : List ℕ). (take 4 ys ++ (zs ++ last)) ++ drop 10 ys)
        (writes_back 4 (drop 4 ys) (bytes_drop 4 ys b) (omega (arith, length-drop 4 ys)))
        ∙ ap (λ (zs : List ℕ). (take 4 ys ++ (take 4 (drop 4 ys) ++ zs)) ++ drop 10 ys)
        (writes_back 2 (drop 8 ys) (bytes_drop 8 ys b) (omega (arith, length-drop 8 ys)))

    whole : (take 4 ys ++ (take 4 (drop 4 ys) ++ take 2 (drop 8 ys))) ++ drop 10 ys ≡ ys
    whole =
        ap (λ (zs : List ℕ). (take 4 ys ++ (take 4 (drop 4 ys) ++ take 2 zs)) ++ drop 10 ys) (sym (drop-drop 4 4 ys))
        ∙ ap (λ (zs : List ℕ). (take 4 ys ++ zs) ++ drop 10 ys) (sym (take-add 4 2 (drop 4 ys)))
        ∙ ap (λ (zs : List ℕ). zs ++ drop 10 ys) (sym (take-add 4 6 ys))
        ∙ take-append-drop 10 ys

-- ---- the rows of a file

-- what is left after k rows
rest : ℕ → List ℕ → List ℕ
rest zero xs = xs
rest (suc k) xs = rest k (drop 11 xs)

record Found (k at : ℕ) (f xs : List ℕ) (l : List LessonEntry) : Type 0 where
  each : IsLesson l
  count : length l ≡ k
  rows : xs ≡ table at l ++ rest k xs
  end : at + length (bodies l) ≡ length f
  tail : drop at f ≡ bodies l

found : (k i at : ℕ) (f xs : List ℕ) (l : List LessonEntry) → Bytes f → Bytes xs → read_from k i at f xs ≡ lesson l → Found k at f xs l
unfolding read_from table bodies IsLesson rest
found zero i at f xs l bf bx h =
    let t = taken (eqb at (length f)) (lesson []) i l h in
    let none : [] ≡ l = cc t.1 in
    let whole : at ≡ length f = eqb-true at (length f) t.0 in
    subst (λ (m : List LessonEntry). Found zero at f xs m) none
    (record { each = tt; count = refl; rows = refl; end = omega arith; tail = drop_of_length-le f {i = at} (omega arith) })
found (suc k) i at f xs l bf bx h =
    let a = left (ltb (length xs) 11)
    (cond (row_fits at xs) (with_entry (entry_of at f xs) (read_from k (suc i) (at + row_length xs) f (drop 11 xs))) (no_lesson i)) i l h in
    let b = taken (row_fits at xs) (with_entry (entry_of at f xs) (read_from k (suc i) (at + row_length xs) f (drop 11 xs))) i l a.1 in
    let m = more (entry_of at f xs) (read_from k (suc i) (at + row_length xs) f (drop 11 xs)) l b.1 in
    let n = found k (suc i) (at + row_length xs) f (drop 11 xs) m.0 bf (bytes_drop 11 xs bx) m.1.0 in
    subst (λ (es : List LessonEntry). Found (suc k) at f xs es) (sym m.1.1) (add (ltb-false (length xs) 11 a.0) b.0 m.0 n)
  where
    add : 11 ≤ length xs → row_fits at xs ≡ true → (es : List LessonEntry) → Found k (at + row_length xs) f (drop 11 xs) es
        → Found (suc k) at f xs (entry_of at f xs ∷ es)
    add there fits es n =
        let tests = and_true (is_kind (row_kind xs)) (eqb (row_offset xs) at) fits in
        let place : row_offset xs ≡ at = eqb-true (row_offset xs) at tests.1 in
        let end : at + row_length xs + length (bodies es) ≡ length f = n.end in
        let size : length (take (row_length xs) (drop at f)) ≡ row_length xs =
        length-take (row_length xs) (drop at f) ∙ omega (arith, length-drop at f) in
        let here : IsEntry (entry_of at f xs) = record {
          kind = tests.0;
          tick = from_small 4 (drop 1 xs) (bytes_drop 1 xs bx);
          body = bytes_take (row_length xs) (drop at f) (bytes_drop at f bf);
        } in
        record {
          each = (here, n.each);
          count = ap suc n.count;
          rows =
              row_of xs bx there
              ∙ ap₂ (λ (p : ℕ) (zs : List ℕ). row (row_kind xs) (row_tick xs) p (row_length xs) ++ zs) place n.rows
              ∙ ap (λ (m : ℕ). row (row_kind xs) (row_tick xs) at m ++ (table (at + m) es ++ rest k (drop 11 xs))) (sym size);
          end = omega (arith, size, length-append (take (row_length xs) (drop at f)) (bodies es));
          tail =
              sym (take-append-drop (row_length xs) (drop at f))
              ∙ ap (λ (zs : List ℕ). take (row_length xs) (drop at f) ++ zs) (drop-drop (row_length xs) at f ∙ n.tail);
        }

whole : (f : List ℕ) (l : List LessonEntry) → Bytes f → 2 ≤ length f → length f ≤ 65536 → get_or f 0 0 ≡ 1
    → Found (get_or f 1 0) (table_end (get_or f 1 0)) f (drop 2 f) l → (f ≡ file_of l) × HasFile l
unfolding file_of
whole [] l b h s v d = absurd (omega arith)
whole (a ∷ []) l b h s v d = absurd (omega arith)
whole (a ∷ n ∷ xs) l b h s v d =
    (file, record { each = d.each; count = omega (arith, d.count, b 1); size = subst (λ (g : List ℕ). length g ≤ 65536) file s })
  where
    len : length (a ∷ n ∷ table (table_end n) l) ≡ table_end n
    len = omega (arith, table_length (table_end n) l, d.count)

    last : rest n xs ≡ bodies l
    last =
        sym (ap (λ (zs : List ℕ). drop (table_end n) (a ∷ n ∷ zs)) d.rows
        ∙ drop_at (a ∷ n ∷ table (table_end n) l) (rest n xs) (table_end n) len)
        ∙ d.tail

    file : a ∷ n ∷ xs ≡ file_of l
    file =
        ap₂ (λ (m : ℕ) (zs : List ℕ). m ∷ n ∷ zs) v (d.rows ∙ ap (λ (zs : List ℕ). table (table_end n) l ++ zs) last)
        ∙ ap (λ (m : ℕ). 1 ∷ m ∷ table (table_end m) l ++ bodies l) (sym d.count)

pub one_file : (f : List ℕ) (l : List LessonEntry) → Bytes f → lesson_of f ≡ lesson l → (f ≡ file_of l) × HasFile l
unfolding lesson_of
one_file f l b h =
    let t = taken (is_headed f) (read_from (get_or f 1 0) 0 (table_end (get_or f 1 0)) f (drop 2 f)) 0 l h in
    let p = and_true (leb 2 (length f) && leb (length f) 65536) (eqb (get_or f 0 0) 1) t.0 in
    let q = and_true (leb 2 (length f)) (leb (length f) 65536) p.0 in
    whole f l b (leb-true 2 (length f) q.0) (leb-true (length f) 65536 q.1) (eqb-true (get_or f 0 0) 1 p.1)
    (found (get_or f 1 0) 0 (table_end (get_or f 1 0)) f (drop 2 f) l b (bytes_drop 2 f b) t.1)

-- so a lesson has one file only
pub same_file : (f g : List ℕ) (l : List LessonEntry) → Bytes f → Bytes g → lesson_of f ≡ lesson l → lesson_of g ≡ lesson l → f ≡ g
same_file f g l bf bg hf hg = (one_file f l bf hf).0 ∙ sym (one_file g l bg hg).0
