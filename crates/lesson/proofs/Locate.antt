-- The entries of a lesson are those of the rows of its file, and their bodies are in the file.
use Rattle.std.proofs.Common.{◌≡◌, true, ℕ, zero, suc, ◌+◌, ◌*◌, ◌<◌, ◌≤◌, cond, eqb, ltb, List, [], ◌∷◌, length, get_or, drop, sym, ap, ◌∙◌, subst, add-zero, arith, length-drop, drop-drop, ltb-false, eqb-true}
use Rattle.lesson.specs.Lesson.{LessonEntry, is_kind, table_end}
use Rattle.lesson.specs.Read.{Reading, no_lesson, lesson, with_entry, row_fits, entry_of, row_kind, row_offset, row_length, read_from}
use Rattle.lesson.specs.Read.{lesson_of, is_headed, row_at, entry_at, Located, entries_of, reading_checked}
use Rattle.lesson.proofs.Count.{entry_count, accepted_lesson}
use Rattle.std.specs.Prelude.{Ok}
use Rattle.bits.proofs.Cases.{and_true}
use Rattle.lesson.proofs.Read.{taken, left, more}

-- row j is located, e is its entry, and of a kind
Is : List ℕ → ℕ → LessonEntry → Type 0
Is f j e = Located f j × ((e ≡ entry_at f j) × (is_kind e.kind ≡ true))

locate : (k i at : ℕ) (f : List ℕ) (l : List LessonEntry) (d : LessonEntry) → read_from k i at f (row_at f i) ≡ lesson l
    → (at ≤ length f) × ((j : ℕ) → j < k → Is f (i + j) (get_or l j d))
unfolding read_from Is
locate zero i at f l d h =
    let whole : at ≡ length f = eqb-true at (length f) (taken (eqb at (length f)) (lesson []) i l h).0 in
    (omega arith, λ j a. absurd (omega arith))
locate (suc k) i at f l d h =
    let a = left (ltb (length xs) 11) (cond (row_fits at xs) (with_entry (entry_of at f xs) next) (no_lesson i)) i l h in
    let b = taken (row_fits at xs) (with_entry (entry_of at f xs) next) i l a.1 in
    let m = more (entry_of at f xs) next l b.1 in
    let n = locate k (suc i) (at + row_length xs) f m.0 d (moved ∙ m.1.0) in
    let fits = and_true (is_kind (row_kind xs)) (eqb (row_offset xs) at) b.0 in
    let place : row_offset xs ≡ at = eqb-true (row_offset xs) at fits.1 in
    let there : 11 ≤ length xs = ltb-false (length xs) 11 a.0 in (
      omega (arith, n.0),
      λ j g. subst (λ (es : List LessonEntry). Is f (i + j) (get_or es j d)) (sym m.1.1)
          (each m.0 fits.0 place there n.0 n.1 j g),
    )
  where
    xs : List ℕ
    xs = row_at f i

    next : Reading
    next = read_from k (suc i) (at + row_length xs) f (drop 11 xs)

    moved : read_from k (suc i) (at + row_length xs) f (row_at f (suc i)) ≡ next
    moved =
        let same : 2 + 11 * suc i ≡ 2 + 11 * i + 11 = omega arith in
        ap (read_from k (suc i) (at + row_length xs) f) (ap (λ (n : ℕ). drop n f) same ∙ sym (drop-drop 11 (2 + 11 * i) f))

    each : (es : List LessonEntry) → is_kind (row_kind xs) ≡ true → row_offset xs ≡ at → 11 ≤ length xs → at + row_length xs ≤ length f
        → ((j : ℕ) → j < k → Is f (suc i + j) (get_or es j d))
        → (j : ℕ) → j < suc k → Is f (i + j) (get_or (entry_of at f xs ∷ es) j d)
    each es kind place there end rest zero g =
        subst (λ (n : ℕ). Is f n (entry_of at f xs)) (sym (add-zero i))
        (record { there = omega (arith, length-drop (2 + 11 * i) f); inside = omega arith }, (ap (λ (n : ℕ). entry_of n f xs) (sym place), kind))
    each es kind place there end rest (suc j) g =
        let same : suc i + j ≡ i + suc j = omega arith in
        subst (λ (n : ℕ). Is f n (get_or es j d)) same (rest j (omega arith))

module _ (f : List ℕ) (l : List LessonEntry) (d : LessonEntry) (h : lesson_of f ≡ lesson l) (j : ℕ) (g : j < get_or f 1 0) where
  is : Is f j (get_or l j d)
  unfolding lesson_of
  is =
      let t = taken (is_headed f) (read_from (get_or f 1 0) 0 (table_end (get_or f 1 0)) f (drop 2 f)) 0 l h in
      let same : 0 + j ≡ j = omega arith in
      subst (λ (n : ℕ). Is f n (get_or l j d)) same ((locate (get_or f 1 0) 0 (table_end (get_or f 1 0)) f l d t.1).1 j g)

  -- entry j of a lesson: its row, and the entry that the row says
  pub entry_is : Located f j × (get_or l j d ≡ entry_at f j)
  unfolding Is
  entry_is = (is.0, is.1.0)

  -- its kind is one
  pub entry_kind : is_kind (entry_at f j).kind ≡ true
  unfolding Is
  entry_kind = ap (λ (e : LessonEntry). is_kind e.kind) (sym is.1.0) ∙ is.1.1

-- ---- the same of a file that is accepted

module _ (f : List ℕ) (ok : reading_checked (lesson_of f) ≡ Ok tt) (j : ℕ) (g : j < length (entries_of (lesson_of f))) where
  below : j < get_or f 1 0
  below = omega (arith, g, entry_count f (entries_of (lesson_of f)) (accepted_lesson f ok))

  pub there : Located f j
  there = (entry_is f (entries_of (lesson_of f)) (entry_at f j) (accepted_lesson f ok) j below).0

  pub told : (d : LessonEntry) → get_or (entries_of (lesson_of f)) j d ≡ entry_at f j
  told d = (entry_is f (entries_of (lesson_of f)) d (accepted_lesson f ok) j below).1

  pub kind_told : is_kind (entry_at f j).kind ≡ true
  kind_told = entry_kind f (entries_of (lesson_of f)) (entry_at f j) (accepted_lesson f ok) j below
