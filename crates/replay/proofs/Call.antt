-- The ways of the public call: no lesson, too little room, played.
use Rattle.std.specs.Prelude.{Ok, Err}
use mathlib.Core.Path.{◌≡◌, refl, ap, ◌∙◌}
use mathlib.Core.List.{List}
use Prim.Native.Nat.{ℕ, ◌≤◌, ◌<◌}
use lib.ListN.{length}
use borrow.Author.Tests.{lt-ltb, le-ltb}
use Rattle.refusal.specs.declared.Refusal.{Refusal}
use Rattle.refusal.specs.declared.Refusal.TheVariants.{ShortBuffer}
use Rattle.chip.specs.declared.Chip.{Chip}
use Rattle.chip.specs.Record.{power_on_chip}
use Rattle.model.specs.Reply.{lent}
use Rattle.lesson.specs.Lesson.{LessonEntry}
use Rattle.lesson.specs.Read.{Reading, no_lesson, lesson, lesson_of, entries_of, reading_checked}
use Rattle.lesson.proofs.Count.{accepted_lesson}
use Rattle.replay.specs.Replay.{played_bytes, played_to, lesson_plays, replay_answer_with, replay_answer_of, replay_buffer_of}
use Rattle.replay.specs.Replay.{reading_plays, replay_checked, replay_answer, replay_buffer}

-- a lesson that fits is played
pub played_answer : (l : List LessonEntry) (out : List ℕ) (c : Chip) (n : ℕ) (after : List ℕ) → length (played_bytes l) ≤ length out
    → c ≡ played_to l → n ≡ length (played_bytes l) → after ≡ lent (played_bytes l) out
    → (replay_answer_with c (Ok n) ≡ replay_answer_of (lesson_plays l (length out)) l)
    × (after ≡ replay_buffer_of (lesson_plays l (length out)) l out)
played_answer l out c n after fit chip size bytes = rw (le-ltb (length out) (length (played_bytes l)) fit, chip, size) (refl, bytes)

-- ---- what is found of a file

-- a file that is no lesson is refused as the check of the file refuses it
refused_plays : (x : Reading) (room : ℕ) (r : Refusal) → reading_checked x ≡ Err r → reading_plays x room ≡ Err r
refused_plays (no_lesson i) room r h = h
refused_plays (lesson l) room r h = cc

pub short_checked : (f : List ℕ) (room : ℕ) → reading_checked (lesson_of f) ≡ (Ok tt) → room < length (played_bytes (entries_of (lesson_of f)))
    → replay_checked f room ≡ Err ShortBuffer
short_checked f room ok h = ap (λ (x : Reading). reading_plays x room) (accepted_lesson f ok) ∙ rw (lt-ltb room _ h)

module _ (f out : List ℕ) where
  pub refused_answer : (r : Refusal) → replay_checked f (length out) ≡ Err r
      → (replay_answer_with power_on_chip (Err r) ≡ replay_answer f (length out)) × (out ≡ replay_buffer f out)
  refused_answer r h = rw h (refl, refl)

  pub no_lesson_law : (r : Refusal) → reading_checked (lesson_of f) ≡ Err r
      → (replay_answer_with power_on_chip (Err r) ≡ replay_answer f (length out)) × (out ≡ replay_buffer f out)
  no_lesson_law r h = refused_answer r (refused_plays (lesson_of f) (length out) r h)
