-- How many bytes a lesson is answered with at the most.
use mathlib.Core.List.{List, [], ◌∷◌}
use Prim.Native.Nat.{ℕ, ◌+◌, ◌*◌, ◌≤◌}
use native.Mathlib.Omega.{arith}
use lib.ListN.{length, length-append}
use Rattle.chip.specs.declared.Chip.{Chip}
use Rattle.chip.specs.Record.{power_on_chip}
use Rattle.model.specs.Call.{Answer, call_to, answer_of, history}
use Rattle.rules.specs.Event.{max3420e}
use Rattle.lesson.specs.Lesson.{LessonEntry, bodies, table, table_end, file_of}
use Rattle.lesson.specs.Read.{lesson_of, entries_of}
use Rattle.lesson.proofs.Count.{accepted_lesson, bodies_most, headed_size}
use Rattle.replay.specs.Results.{call_of, result_of, results}
use Rattle.replay.specs.Replay.{played_bytes}
use Rattle.replay.specs.Room.{Counted, enough_room}
use Rattle.replay.proofs.Numbers.{entry_most}
use Rattle.replay.proofs.Turn.{left_bytes}

-- for each entry its four bytes, and a packet's and its body's at the most
left_most : (c : Chip) (l : List LessonEntry) → length (left_bytes c l) ≤ 68 * length l + length (bodies l)
unfolding history results bodies
left_most c [] = omega arith
left_most c (e ∷ es) =
    let a : Answer = answer_of max3420e c (call_of e) in
    let rest : List ℕ = left_bytes (call_to max3420e c (call_of e)) es in
    omega (
      arith,
      length-append (result_of a) rest,
      length-append e.body (bodies es),
      entry_most c 4096 e.kind e.body,
      left_most (call_to max3420e c (call_of e)) es,
    )

-- room that is enough for every lesson of its entries and its bytes
pub played_most : (f : List ℕ) (n : ℕ) → Counted f n → length (played_bytes (entries_of (lesson_of f))) ≤ enough_room n (length f)
unfolding played_bytes
played_most f n h =
    let l : List LessonEntry = entries_of (lesson_of f) in
    omega (arith, left_most power_on_chip l, bodies_most f l (accepted_lesson f h.accepted), h.count)

-- the same of the lesson's own file
pub most_file : (l : List LessonEntry) → length (played_bytes l) ≤ enough_room (length l) (length (file_of l))
unfolding played_bytes file_of
most_file l = omega (arith, left_most power_on_chip l, length-append (table (table_end (length l)) l) (bodies l))

-- and for every lesson
pub enough_most : (f : List ℕ) (n : ℕ) → Counted f n → enough_room n (length f) ≤ 82876
enough_most f n h = omega (arith, (headed_size f (entries_of (lesson_of f)) (accepted_lesson f h.accepted)).1, h.few)
