-- The parts of a lesson: they belong together, are that lesson again, and fit the slices that the writer is lent.
use mathlib.Core.Path.{◌≡◌, refl, sym, ap, ◌∙◌}
use mathlib.Core.Bool.{Bool, true, false, ◌||◌}
use mathlib.Core.List.{List, [], ◌∷◌, ◌++◌}
use Prim.Native.Nat.{ℕ, zero, suc, ◌+◌, ◌≤◌, ◌<◌}
use native.Mathlib.Omega.{arith}
use lib.Dec.{eqb}
use lib.ListN.{length, get_or, take, drop, length-append}
use lib.Seq.{take_at, drop_at}
use borrow.Author.Tests.{eqb-true}
use Rattle.little_endian.specs.Number.{Bytes}
use Rattle.lesson.specs.Lesson.{LessonEntry, IsLesson, HasFile, is_kind, bodies, file_of}
use Rattle.lesson_writer.specs.Parts.{lesson_from, total, size_of, kinds_of, ticks_of, lengths_of}
use Rattle.lesson_writer.specs.Room.{Together, Ticks, Lendable}
use Rattle.lesson_writer.proofs.File.{size_is}

pub parts_together : (l : List LessonEntry) → Together (kinds_of l) (ticks_of l) (lengths_of l) (bodies l)
unfolding total bodies
parts_together [] = record { ticks = refl; lengths = refl; whole = refl }
parts_together (e ∷ es) =
    let p = parts_together es in
    record {
      ticks = ap suc p.ticks;
      lengths = ap suc p.lengths;
      whole = ap (λ (n : ℕ). length e.body + n) p.whole ∙ sym (length-append e.body (bodies es));
    }

-- a lesson's parts are that lesson
pub parts_lesson : (l : List LessonEntry) → lesson_from (kinds_of l) (ticks_of l) (lengths_of l) (bodies l) ≡ l
unfolding lesson_from bodies
parts_lesson [] = refl
parts_lesson (e ∷ es) =
    let here : take (length e.body) (e.body ++ bodies es) ≡ e.body = take_at e.body (bodies es) (length e.body) refl in
    let rest : drop (length e.body) (e.body ++ bodies es) ≡ bodies es = drop_at e.body (bodies es) (length e.body) refl in
    ap (λ (b : List ℕ). record { kind = e.kind; tick = e.tick; body = b } ∷ lesson_from (kinds_of es) (ticks_of es) (lengths_of es)
    (drop (length e.body) (e.body ++ bodies es))) here
    ∙ ap (λ (bs : List ℕ). e ∷ lesson_from (kinds_of es) (ticks_of es) (lengths_of es) bs) rest
    ∙ ap (λ (l : List LessonEntry). e ∷ l) (parts_lesson es)

-- and their size is that of its file
pub parts_size : (l : List LessonEntry) → size_of (kinds_of l) (bodies l) ≡ length (file_of l)
parts_size l =
    sym (size_is (kinds_of l) (ticks_of l) (lengths_of l) (bodies l) (parts_together l))
    ∙ ap (λ (m : List LessonEntry). length (file_of m)) (parts_lesson l)

-- ---- the slices: kinds and bodies of bytes, ticks of 32 bits, lengths of 16

kind_small : (k : ℕ) → is_kind k ≡ true → k < 256
kind_small k = small (eqb k 1) refl
  where
    small : (t : Bool) → eqb k 1 ≡ t → (t || eqb k 2) ≡ true → k < 256
    small true e h = let one : k ≡ 1 = eqb-true k 1 e in omega arith
    small false e h = let two : k ≡ 2 = eqb-true k 2 h in omega arith

kinds_fit : (l : List LessonEntry) → IsLesson l → Bytes (kinds_of l)
unfolding IsLesson
kinds_fit [] h i = omega arith
kinds_fit (e ∷ es) h zero = kind_small e.kind h.0.kind
kinds_fit (e ∷ es) h (suc i) = kinds_fit es h.1 i

ticks_fit : (l : List LessonEntry) → IsLesson l → Ticks (ticks_of l)
unfolding IsLesson
ticks_fit [] h i = omega arith
ticks_fit (e ∷ es) h zero = h.0.tick
ticks_fit (e ∷ es) h (suc i) = ticks_fit es h.1 i

bytes_append : (xs ys : List ℕ) → Bytes xs → Bytes ys → Bytes (xs ++ ys)
bytes_append [] ys a b i = b i
bytes_append (x ∷ xs) ys a b zero = a 0
bytes_append (x ∷ xs) ys a b (suc i) = bytes_append xs ys (λ j. a (suc j)) b i

bodies_fit : (l : List LessonEntry) → IsLesson l → Bytes (bodies l)
unfolding IsLesson bodies
bodies_fit [] h i = omega arith
bodies_fit (e ∷ es) h i = bytes_append e.body (bodies es) h.0.body (bodies_fit es h.1) i

-- a length is at most their sum
length_within : (ns : List ℕ) (i : ℕ) → get_or ns i 0 ≤ total ns
unfolding total
length_within [] i = omega arith
length_within (n ∷ ns) zero = omega arith
length_within (n ∷ ns) (suc i) = omega (arith, length_within ns i)

-- the parts of a lesson that has a file can be lent
pub parts_fit : (l : List LessonEntry) → HasFile l → Lendable (kinds_of l) (ticks_of l) (lengths_of l) (bodies l)
parts_fit l h = record {
  kinds = kinds_fit l h.each;
  ticks = ticks_fit l h.each;
  lengths = λ i. omega (arith, length_within (lengths_of l) i, (parts_together l).whole, parts_size l, h.size);
  bodies = bodies_fit l h.each;
}
