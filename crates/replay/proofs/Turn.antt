-- The loop over the entries of a lesson: before entry i, what is still to be played and to be written makes the whole.
use mathlib.Core.Path.{◌≡◌, refl, sym, ap, ◌∙◌}
use mathlib.Core.List.{List, [], ◌∷◌, ◌++◌}
use Prim.Native.Nat.{ℕ, ◌+◌, ◌≤◌}
use native.Mathlib.Omega.{arith}
use lib.ListN.{length, length-append}
use lib.Seq.{sets, length-sets}
use Rattle.chip.specs.declared.Chip.{Chip}
use Rattle.chip.specs.Record.{power_on_chip}
use Rattle.model.specs.Reply.{lent}
use Rattle.model.specs.Call.{Call, Answer, call_to, answer_of, run_to, history}
use Rattle.rules.specs.Event.{max3420e}
use Rattle.bus.specs.EventCall.{answer_pid}
use Rattle.little_endian.proofs.Put.{put_put, put_first}
use Rattle.lesson.specs.Lesson.{LessonEntry}
use Rattle.replay.specs.Results.{call_of, answer_refusal, answer_bytes, result_with, result_of, results}
use Rattle.replay.specs.Replay.{calls_of, played_bytes, played_to}

-- the results of the entries that are left, from a record on
abbrev pub left_bytes : Chip → List LessonEntry → List ℕ
left_bytes c es = results (history max3420e c (calls_of es))

-- four bytes, and those of the reply
pub result_length : (refusal pid : ℕ) (bytes : List ℕ) → 4 + length bytes ≡ length (result_with refusal pid bytes)
result_length refusal pid bytes = omega arith

pub record Turn (l es : List LessonEntry) (c : Chip) (filled : ℕ) (out out₀ : List ℕ) : Type 0 where
  pub sized : length out ≡ length out₀
  pub chip : run_to max3420e c (calls_of es) ≡ played_to l
  pub size : filled + length (left_bytes c es) ≡ length (played_bytes l)
  pub written : sets out filled (left_bytes c es) ≡ sets out₀ 0 (played_bytes l)

pub start : (l : List LessonEntry) (out : List ℕ) → Turn l l power_on_chip 0 out out
unfolding played_bytes played_to
start l out = record { sized = refl; chip = refl; size = omega arith; written = refl }

-- ---- one entry

module _ (l es : List LessonEntry) (e : LessonEntry) (c : Chip) (filled : ℕ) (out out₀ : List ℕ) where
  abbrev pub here : Call
  here = call_of e

  abbrev pub answer : Answer
  answer = answer_of max3420e c here

  left_run : run_to max3420e c (calls_of (e ∷ es)) ≡ run_to max3420e (call_to max3420e c here) (calls_of es)
  unfolding run_to call_to
  left_run = refl

  abbrev pub rest : List ℕ
  rest = left_bytes (call_to max3420e c here) es

  left_bytes_law : left_bytes c (e ∷ es) ≡ result_of answer ++ rest
  unfolding history results answer_of
  left_bytes_law = refl

  -- its result is a part of the whole
  pub total : Turn l (e ∷ es) c filled out out₀ → filled + (4 + length (answer_bytes answer)) + length rest ≡ length (played_bytes l)
  total t = omega (arith, t.size, ap length left_bytes_law, length-append (result_of answer) rest)

  pub turn : Turn l (e ∷ es) c filled out out₀
      → Turn l es (call_to max3420e c here) (filled + (4 + length (answer_bytes answer))) (sets out filled (result_of answer)) out₀
  turn t = record {
    sized = length-sets out filled (result_of answer) ∙ t.sized;
    chip = sym left_run ∙ t.chip;
    size = total t;
    written =
        ap (λ (n : ℕ). sets (sets out filled (result_of answer)) (filled + n) rest)
        (result_length (answer_refusal answer) (answer_pid answer) (answer_bytes answer))
        ∙ put_put (result_of answer) rest out filled
        ∙ ap (sets out filled) (sym left_bytes_law)
        ∙ t.written;
  }

-- ---- after the last

module _ (l : List LessonEntry) (c : Chip) (filled : ℕ) (out out₀ : List ℕ) (t : Turn l [] c filled out out₀) where
  pub last_chip : c ≡ played_to l
  unfolding run_to
  last_chip = t.chip

  nothing : left_bytes c [] ≡ []
  unfolding history results
  nothing = refl

  pub last_size : filled ≡ length (played_bytes l)
  last_size = omega (arith, t.size, ap length nothing)

  pub last_written : length (played_bytes l) ≤ length out₀ → out ≡ lent (played_bytes l) out₀
  last_written fits = ap (sets out filled) (sym nothing) ∙ t.written ∙ put_first (played_bytes l) out₀ fits
