-- What is written reads back; the writer writes every lesson that has a file, and refuses exactly what is none or has none.
use Rattle.std.specs.Prelude.{Ok, Err}
use mathlib.Core.Path.{◌≡◌, refl, sym, ap, subst, ◌∙◌}
use mathlib.Core.Logic.{◌↔◌}
use mathlib.Core.Bool.{Bool, true, false, not}
use mathlib.Core.List.{List, [], ◌∷◌}
use Prim.Native.Nat.{ℕ, suc, ◌≤◌, ◌<◌}
use native.Mathlib.Omega.{arith}
use lib.Dec.{ltb}
use lib.ListN.{length, take, drop}
use lib.Seq.{take_at}
use borrow.Author.Tests.{le-leb, eq-eqb, le-ltb, lt-ltb, ltb-true, not-true, not-false}
use Rattle.bits.proofs.Cases.{and_true}
use Rattle.bits.proofs.First.{FirstAt}
use Rattle.refusal.specs.declared.Refusal.{Refusal}
use Rattle.refusal.specs.declared.Refusal.TheVariants.{ShortBuffer, NoLesson}
use Rattle.refusal.specs.Check.{Checked}
use Rattle.refusal.specs.Check.{check}
use Rattle.refusal.proofs.Check.{refusal_at, check_exactly}
use Rattle.model.specs.Reply.{lent}
use Rattle.little_endian.specs.Number.{Bytes}
use Rattle.lesson.specs.Lesson.{LessonEntry, IsLesson, HasFile, is_kind, bodies, file_of}
use Rattle.lesson.specs.Read.{lesson, lesson_of}
use Rattle.lesson.proofs.Write.{writes_read}
use Rattle.lesson.proofs.Read.{bytes_take, bytes_drop}
use Rattle.lesson_writer.specs.Parts.{lesson_from, total, all_kinds, size_of, has_file, kinds_of, ticks_of, lengths_of}
use Rattle.lesson_writer.specs.Parts.{writer_grounds, writer_checked, writer_reply_of, writer_reply, writer_buffer}
use Rattle.lesson_writer.specs.Room.{Together, Ticks}
use Rattle.lesson_writer.proofs.File.{from_count, size_is, told}
use Rattle.lesson_writer.proofs.Parts.{parts_together, parts_lesson, parts_size}

-- ---- which parts have a file

each : (ks ts ns bs : List ℕ) → all_kinds ks ≡ true → Ticks ts → Bytes bs → IsLesson (lesson_from ks ts ns bs)
unfolding lesson_from IsLesson
each [] ts ns bs k t b = tt
each (x ∷ ks) [] ns bs k t b = tt
each (x ∷ ks) (y ∷ ts) [] bs k t b = tt
each (x ∷ ks) (y ∷ ts) (n ∷ ns) bs k t b =
    let p = and_true (is_kind x) (all_kinds ks) k in
    (record { kind = p.0; tick = t 0; body = bytes_take n bs b }, each ks ts ns (drop n bs) p.1 (λ i. t (suc i)) (bytes_drop n bs b))

all_kinds_law : (ks ts ns bs : List ℕ) → length ts ≡ length ks → length ns ≡ length ks → IsLesson (lesson_from ks ts ns bs) → all_kinds ks ≡ true
unfolding lesson_from IsLesson
all_kinds_law [] ts ns bs a b e = refl
all_kinds_law (k ∷ ks) [] ns bs a b e = absurd (omega arith)
all_kinds_law (k ∷ ks) (t ∷ ts) [] bs a b e = absurd (omega arith)
all_kinds_law (k ∷ ks) (t ∷ ts) (n ∷ ns) bs a b e = rw e.0.kind (all_kinds_law ks ts ns (drop n bs) (omega arith) (omega arith) e.1)

module _ (ks ts ns bs : List ℕ) where
  -- accepted parts belong together, and the lesson that they are has a file
  pub accepted_has : Ticks ts → Bytes bs → has_file ks ts ns bs ≡ true → Together ks ts ns bs × HasFile (lesson_from ks ts ns bs)
  accepted_has t b h =
      let f = told ks ts ns bs h in
      let count : length (lesson_from ks ts ns bs) ≡ length ks = from_count ks ts ns bs f.together in
      let size : length (file_of (lesson_from ks ts ns bs)) ≡ size_of ks bs = size_is ks ts ns bs f.together in
      (f.together, record { each = each ks ts ns bs f.kinds t b; count = omega (arith, f.count); size = omega (arith, f.size) })

  -- and such parts are accepted
  pub has_accepted : Together ks ts ns bs → HasFile (lesson_from ks ts ns bs) → has_file ks ts ns bs ≡ true
  unfolding has_file
  has_accepted p h =
      let count : length (lesson_from ks ts ns bs) ≡ length ks = from_count ks ts ns bs p in
      let size : length (file_of (lesson_from ks ts ns bs)) ≡ size_of ks bs = size_is ks ts ns bs p in
      rw (
        le-leb (length ks) 255 (omega (arith, h.count)),
        le-leb (size_of ks bs) 65536 (omega (arith, h.size)),
        eq-eqb (length ts) (length ks) p.ticks,
        eq-eqb (length ns) (length ks) p.lengths,
        eq-eqb (total ns) (length bs) p.whole,
        all_kinds_law ks ts ns bs p.ticks p.lengths h.each,
      )

  -- parts have a file exactly when they belong together and are a lesson of at most 255 entries and 64 KiB
  pub has_file_exactly : Ticks ts → Bytes bs → (has_file ks ts ns bs ≡ true) ↔ (Together ks ts ns bs × HasFile (lesson_from ks ts ns bs))
  has_file_exactly t b = (accepted_has t b, λ p. has_accepted p.0 p.1)

-- ---- what is written reads back

-- a reply of n bytes: accepted, with room, and n is the file's size
written_cases : (h s : Bool) (size n : ℕ) → writer_reply_of (check ((not h, NoLesson 0) ∷ (s, ShortBuffer) ∷ [])) size ≡ Ok n
    → (h ≡ true) × ((s ≡ false) × (size ≡ n))
written_cases true false size n e = (refl, (refl, cc))
written_cases true true size n e = let z : ◌≡◌ {A = ℕ} 0 1 = cc in absurd (omega arith)
written_cases false s size n e = let z : ◌≡◌ {A = ℕ} 0 1 = cc in absurd (omega arith)

module _ (ks ts ns bs : List ℕ) (t : Ticks ts) (b : Bytes bs) where
  -- the file of accepted parts reads as the lesson that they are
  pub file_reads : has_file ks ts ns bs ≡ true → lesson_of (file_of (lesson_from ks ts ns bs)) ≡ lesson (lesson_from ks ts ns bs)
  file_reads h = writes_read (lesson_from ks ts ns bs) (accepted_has ks ts ns bs t b h).1

  -- and so do the n bytes of the lent buffer that the writer says it wrote
  pub written_reads : (buffer : List ℕ) (n : ℕ) → writer_reply ks ts ns bs (length buffer) ≡ Ok n
      → lesson_of (take n (writer_buffer ks ts ns bs buffer)) ≡ lesson (lesson_from ks ts ns bs)
  written_reads buffer n e =
      let w = written_cases (has_file ks ts ns bs) (ltb (length buffer) (size_of ks bs)) (size_of ks bs) n e in
      let f = file_of (lesson_from ks ts ns bs) in
      let size : length f ≡ n = size_is ks ts ns bs (told ks ts ns bs w.0).together ∙ w.1.1 in
      let file : take n (writer_buffer ks ts ns bs buffer) ≡ f = rw (w.0, w.1.0) (take_at f (drop (length f) buffer) n size) in
      ap lesson_of file ∙ file_reads w.0

-- ---- the writer writes every lesson that has a file

module _ (l : List LessonEntry) (h : HasFile l) where
  parts_accepted : has_file (kinds_of l) (ticks_of l) (lengths_of l) (bodies l) ≡ true
  parts_accepted =
      has_accepted (kinds_of l) (ticks_of l) (lengths_of l) (bodies l) (parts_together l)
      (subst (λ (m : List LessonEntry). HasFile m) (sym (parts_lesson l)) h)

  -- with room for its file, the writer replies the file's size and leaves the file at the start of the buffer
  pub writes_each : (buffer : List ℕ) → length (file_of l) ≤ length buffer
      → (writer_reply (kinds_of l) (ticks_of l) (lengths_of l) (bodies l) (length buffer) ≡ Ok (length (file_of l)))
      × (writer_buffer (kinds_of l) (ticks_of l) (lengths_of l) (bodies l) buffer ≡ lent (file_of l) buffer)
  writes_each buffer room =
      let size : size_of (kinds_of l) (bodies l) ≡ length (file_of l) = parts_size l in
      let fits = le-ltb (length buffer) (size_of (kinds_of l) (bodies l)) (omega arith) in (
        rw (parts_accepted, fits) (ap Ok size),
        rw (parts_accepted, fits)
            (ap (λ (m : List LessonEntry). lent (file_of m) buffer) (parts_lesson l)),
      )

-- ---- what the writer refuses

-- the reply refuses what the check refuses
pub reply_refused : (v : Checked) (n : ℕ) (r : Refusal) → (writer_reply_of v n ≡ Err r) ↔ (v ≡ Err r)
reply_refused (Ok tt) n r =
    ((λ e. let z : ◌≡◌ {A = ℕ} 0 1 = cc in absurd (omega arith)), (λ e. let z : ◌≡◌ {A = ℕ} 0 1 = cc in absurd (omega arith)))
reply_refused (Err s) n r = ((λ e. cc), (λ e. cc))

module _ (ks ts ns bs : List ℕ) (room : ℕ) where
  -- each ground is given exactly when it applies and none before it does
  pub grounds_exactly : (i : ℕ) → i < 2
      → (writer_checked ks ts ns bs room ≡ refusal_at (writer_grounds ks ts ns bs room) i) ↔ FirstAt (writer_grounds ks ts ns bs room) i
  grounds_exactly i = check_exactly (writer_grounds ks ts ns bs room) refl i

  -- 13, naming 0, for exactly what is no lesson or one of over 255 entries or 64 KiB
  pub no_lesson_exactly : (writer_reply ks ts ns bs room ≡ Err (NoLesson 0)) ↔ (has_file ks ts ns bs ≡ false)
  no_lesson_exactly = (given, λ e. rw e)
    where
      given : writer_reply ks ts ns bs room ≡ Err (NoLesson 0) → has_file ks ts ns bs ≡ false
      given e =
          not-true (has_file ks ts ns bs)
          ((grounds_exactly 0 (omega arith)).0 ((reply_refused (writer_checked ks ts ns bs room) (size_of ks bs) (NoLesson 0)).0 e)).applies

  -- else 4 for exactly a lent buffer too short
  pub short_buffer_exactly : (writer_reply ks ts ns bs room ≡ Err ShortBuffer) ↔ ((has_file ks ts ns bs ≡ true) × (room < size_of ks bs))
  short_buffer_exactly = (given, λ p. let short = lt-ltb room (size_of ks bs) p.1 in rw (p.0, short))
    where
      given : writer_reply ks ts ns bs room ≡ Err ShortBuffer → (has_file ks ts ns bs ≡ true) × (room < size_of ks bs)
      given e =
          let f = (grounds_exactly 1 (omega arith)).0 ((reply_refused (writer_checked ks ts ns bs room) (size_of ks bs) ShortBuffer).0 e) in
          (not-false (has_file ks ts ns bs) (f.before 0 (omega arith)), ltb-true room (size_of ks bs) f.applies)
