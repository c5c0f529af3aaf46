-- A refusal names the first row that is missing or does not fit, or the number of rows where only the file's end is wrong.
use Rattle.std.proofs.Common.{◌≡◌, ℕ, zero, suc, ◌+◌, ◌*◌, ◌<◌, ◌≤◌, Bool, true, false, cond, ◌&&◌, eqb, ltb, leb, ◌⊎◌, ◌↔◌, List, [], length, get_or, drop, sym, refl, ap, ◌∙◌, subst, inl, inr, ⊎_elim, arith, length-drop, drop-drop, ltb-false, ltb-true, le-ltb, lt-ltb, le-leb, leb-true}
use native.Mathlib.Decide.{dec_lt}
use borrow.Author.Tests.{lt-leb}
use Rattle.bits.proofs.Cases.{and_true}
use Rattle.lesson.proofs.Write.{read_row}
use Rattle.lesson.specs.Lesson.{LessonEntry}
use Rattle.lesson.specs.Read.{Reading, no_lesson, lesson, with_entry, row_fits, entry_of, row_length, read_from, lesson_of, is_headed}
use Rattle.lesson.specs.Read.{row_at, offset_at, is_entry_at}

-- ---- a reading that is no lesson, taken apart

cases_left : (t : Bool) (i r : ℕ) (x : Reading) → cond t (no_lesson i) x ≡ no_lesson r
    → ((t ≡ true) × (i ≡ r)) ⊎ ((t ≡ false) × (x ≡ no_lesson r))
cases_left true i r x e = inl (refl, cc)
cases_left false i r x e = inr (refl, e)

cases_right : (t : Bool) (i r : ℕ) (x : Reading) → cond t x (no_lesson i) ≡ no_lesson r
    → ((t ≡ false) × (i ≡ r)) ⊎ ((t ≡ true) × (x ≡ no_lesson r))
cases_right false i r x e = inl (refl, cc)
cases_right true i r x e = inr (refl, e)

rest_refused : (e : LessonEntry) (x : Reading) (r : ℕ) → with_entry e x ≡ no_lesson r → x ≡ no_lesson r
rest_refused e (no_lesson i) r h = h
rest_refused e (lesson es) r h = let z : ◌≡◌ {A = ℕ} 0 1 = cc in absurd (omega arith)

-- ---- from row i, with k rows left

record Walk (k i : ℕ) (f : List ℕ) (r : ℕ) : Type 0 where
  from : i ≤ r
  to : r ≤ i + k
  before : (j : ℕ) → i ≤ j → j < r → is_entry_at f j ≡ true
  there : r < i + k → is_entry_at f r ≡ false
  last : r ≡ i + k → eqb (offset_at f r) (length f) ≡ false

stop : (k i : ℕ) (f : List ℕ) (r : ℕ) → i ≡ r → is_entry_at f i ≡ false → Walk (suc k) i f r
stop k i f r e h =
    subst (λ (n : ℕ). Walk (suc k) i f n) e
    (record {
      from = omega arith;
      to = omega arith;
      before = λ j a b. absurd (omega arith);
      there = λ l. h;
      last = λ l. absurd (omega arith);
    })

step : (k i : ℕ) (f : List ℕ) (r : ℕ) → is_entry_at f i ≡ true → Walk k (suc i) f r → Walk (suc k) i f r
step k i f r h w =
    let from : suc i ≤ r = w.from in
    let to : r ≤ suc i + k = w.to in
    record {
      from = omega arith;
      to = omega arith;
      before = λ j a b. elim (dec_lt i j) [
        | yes l ↦ w.before j l b
        | no g ↦ let same : i ≡ j = omega arith in subst (λ (n : ℕ). is_entry_at f n ≡ true) same h
      ];
      there = λ l. w.there (omega arith);
      last = λ l. w.last (omega arith);
    }

-- row i is there when the file is long enough for it
row_absent : (i : ℕ) (f : List ℕ) → length (row_at f i) < 11 → leb (2 + 11 * (i + 1)) (length f) ≡ false
row_absent i f l = lt-leb (2 + 11 * (i + 1)) (length f) (omega (arith, length-drop (2 + 11 * i) f))

row_present : (i : ℕ) (f : List ℕ) → 11 ≤ length (row_at f i) → leb (2 + 11 * (i + 1)) (length f) ≡ true
row_present i f l = le-leb (2 + 11 * (i + 1)) (length f) (omega (arith, length-drop (2 + 11 * i) f))

entry_there : (i : ℕ) (f : List ℕ) → is_entry_at f i ≡ true → (11 ≤ length (row_at f i)) × (row_fits (offset_at f i) (row_at f i) ≡ true)
entry_there i f h =
    let both = and_true (leb (2 + 11 * (i + 1)) (length f)) (row_fits (offset_at f i) (row_at f i)) h in
    let long : 2 + 11 * (i + 1) ≤ length f = leb-true (2 + 11 * (i + 1)) (length f) both.0 in
    (omega (arith, length-drop (2 + 11 * i) f), both.1)

-- the rows after row i
row_moved : (k i : ℕ) (f : List ℕ) → read_from k (suc i) (offset_at f (suc i)) f (row_at f (suc i))
    ≡ read_from k (suc i) (offset_at f i + row_length (row_at f i)) f (drop 11 (row_at f i))
unfolding offset_at
row_moved k i f =
    let same : 2 + 11 * suc i ≡ 2 + 11 * i + 11 = omega arith in
    ap (read_from k (suc i) (offset_at f (suc i)) f) (ap (λ (n : ℕ). drop n f) same ∙ sym (drop-drop 11 (2 + 11 * i) f))

walk : (k i : ℕ) (f : List ℕ) (r : ℕ) → read_from k i (offset_at f i) f (row_at f i) ≡ no_lesson r → Walk k i f r
unfolding read_from offset_at
walk zero i f r h =
    ⊎_elim
    (λ (p : (eqb (offset_at f i) (length f) ≡ false) × (i ≡ r)).
    subst (λ (n : ℕ). Walk zero i f n) p.1
    (record {
      from = omega arith;
      to = omega arith;
      before = λ j a b. absurd (omega arith);
      there = λ l. absurd (omega arith);
      last = λ l. p.0;
    }))
    (λ p. let z : ◌≡◌ {A = ℕ} 0 1 = cc p.1 in absurd (omega arith))
    (cases_right (eqb (offset_at f i) (length f)) i r (lesson []) h)
walk (suc k) i f r h =
    ⊎_elim
    (λ (p : (ltb (length (row_at f i)) 11 ≡ true) × (i ≡ r)).
    stop k i f r p.1 (ap (λ (t : Bool). t && row_fits (offset_at f i) (row_at f i))
    (row_absent i f (ltb-true (length (row_at f i)) 11 p.0))))
    (λ (p : (ltb (length (row_at f i)) 11 ≡ false)
    × (cond (row_fits (offset_at f i) (row_at f i)) (with_entry e next) (no_lesson i) ≡ no_lesson r)).
    ⊎_elim
    (λ (q : (row_fits (offset_at f i) (row_at f i) ≡ false) × (i ≡ r)). stop k i f r q.1
    (rw (row_present i f (ltb-false (length (row_at f i)) 11 p.0)) q.0))
    (λ (q : (row_fits (offset_at f i) (row_at f i) ≡ true) × (with_entry e next ≡ no_lesson r)).
    step k i f r (rw (row_present i f (ltb-false (length (row_at f i)) 11 p.0)) q.0)
    (walk k (suc i) f r (row_moved k i f ∙ rest_refused e next r q.1)))
    (cases_right (row_fits (offset_at f i) (row_at f i)) i r (with_entry e next) p.1))
    (cases_left (ltb (length (row_at f i)) 11) i r (cond (row_fits (offset_at f i) (row_at f i)) (with_entry e next) (no_lesson i)) h)
  where
    e : LessonEntry
    e = entry_of (offset_at f i) f (row_at f i)

    next : Reading
    next = read_from k (suc i) (offset_at f i + row_length (row_at f i)) f (drop 11 (row_at f i))

-- ---- and back

-- row i is the one that is named
stays : (k i : ℕ) (f : List ℕ) → is_entry_at f i ≡ false → read_from (suc k) i (offset_at f i) f (row_at f i) ≡ no_lesson i
unfolding read_from
stays k i f h = elim (dec_lt (length (row_at f i)) 11) [
  | yes l ↦ rw (lt-ltb (length (row_at f i)) 11 l)
  | no g ↦ let there : 11 ≤ length (row_at f i) = omega arith in
      let unfit : row_fits (offset_at f i) (row_at f i) ≡ false =
      sym (ap (λ (t : Bool). t && row_fits (offset_at f i) (row_at f i)) (row_present i f there)) ∙ h in
      rw (le-ltb (length (row_at f i)) 11 there, unfit)
]

walk_back : (k i : ℕ) (f : List ℕ) (r : ℕ) → Walk k i f r → read_from k i (offset_at f i) f (row_at f i) ≡ no_lesson r
unfolding read_from offset_at
walk_back zero i f r w =
    let same : r ≡ i = omega (arith, w.from, w.to) in
    let wrong : eqb (offset_at f i) (length f) ≡ false =
    subst (λ (n : ℕ). eqb (offset_at f n) (length f) ≡ false) same (w.last (omega arith)) in
    rw wrong (ap no_lesson (sym same))
walk_back (suc k) i f r w = elim (dec_lt i r) [
  | yes l ↦ let here = entry_there i f (w.before i (omega arith) l) in
      read_row k i (offset_at f i) f (row_at f i) here.0 here.1
      ∙ ap (with_entry (entry_of (offset_at f i) f (row_at f i)))
      (sym (row_moved k i f)
      ∙ walk_back k (suc i) f r
      (record {
        from = l;
        to = omega (arith, w.to);
        before = λ j a b. w.before j (omega arith) b;
        there = λ m. w.there (omega arith);
        last = λ e. w.last (omega arith);
      }))
  | no g ↦ let same : i ≡ r = omega (arith, w.from) in
      stays k i f (subst (λ (n : ℕ). is_entry_at f n ≡ false) (sym same) (w.there (omega arith))) ∙ ap no_lesson same
]

-- ---- the whole file

pub record First (f : List ℕ) (r : ℕ) : Type 0 where
  pub within : r ≤ get_or f 1 0
  pub before : (j : ℕ) → j < r → is_entry_at f j ≡ true
  pub there : r < get_or f 1 0 → is_entry_at f r ≡ false
  pub last : r ≡ get_or f 1 0 → eqb (offset_at f r) (length f) ≡ false

pub names_first : (f : List ℕ) (r : ℕ) → is_headed f ≡ true → lesson_of f ≡ no_lesson r → First f r
unfolding lesson_of offset_at
names_first f r t h =
    let w = walk (get_or f 1 0) 0 f r (rw t at h) in
    record {
      within = omega (arith, w.to);
      before = λ j l. w.before j (omega arith) l;
      there = λ l. w.there (omega arith);
      last = λ e. w.last (omega arith);
    }

pub names_none : (f : List ℕ) → is_headed f ≡ false → lesson_of f ≡ no_lesson 0
unfolding lesson_of
names_none f t = rw t

-- 13 names r exactly when r is the first that is missing or does not fit, or the number of rows
pub names_exactly : (f : List ℕ) (r : ℕ) → is_headed f ≡ true → (lesson_of f ≡ no_lesson r) ↔ First f r
unfolding lesson_of offset_at
names_exactly f r t = (
  names_first f r t,
  λ h. rw t (walk_back (get_or f 1 0) 0 f r (record {
    from = omega arith;
    to = omega (arith, h.within);
    before = λ j a b. h.before j b;
    there = λ l. h.there (omega arith);
    last = λ e. h.last (omega arith);
  })),
)
