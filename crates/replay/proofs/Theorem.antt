-- Replay of a lesson. Playing is making all calls one by one from power-on: so demand 3 holds after every lesson, and every record
-- that a replay hands back is sound. Each call is lent enough: more room changes nothing. The theorems assume nothing of a file.
use Rattle.std.specs.Prelude.{Ok, Err}
use mathlib.Core.Path.{◌≡◌, refl, sym, ap, ap₂, ◌∙◌, subst}
use mathlib.Core.Logic.{◌↔◌}
use mathlib.Core.Bool.{Bool, true, false, cond}
use mathlib.Core.List.{List, [], ◌∷◌, ◌++◌, map}
use Prim.Native.Nat.{ℕ, ◌≤◌, ◌<◌}
use native.Mathlib.Omega.{arith}
use native.Mathlib.Decide.{dec_lt}
use lib.Dec.{eqb, ltb}
use lib.ListN.{length}
use borrow.Author.Tests.{lt-ltb, le-ltb, ltb-true}
use Rattle.refusal.specs.declared.Refusal.TheVariants.{ShortBuffer, NoLesson}
use Rattle.refusal.specs.Check.{Checked}
use Rattle.refusal.specs.Check.{check}
use Rattle.chip.specs.declared.Chip.{Chip}
use Rattle.chip.specs.Record.{power_on_chip}
use Rattle.chip.specs.Sound.{sound_chip}
use Rattle.model.specs.declared.Event.{Event}
use Rattle.model.specs.Call.{Call, transfer, event, Answer, transfer_grounds, event_grounds, checked, checked_to, checked_answer}
use Rattle.model.specs.Call.{call_to, answer_of, run_to, history}
use Rattle.rules.specs.Event.{max3420e}
use Rattle.rules.specs.Demand.{Demand3Of}
use Rattle.rules.proofs.Theorem.{demand3, reached_sound}
use Rattle.lesson.specs.Lesson.{LessonEntry}
use Rattle.lesson.specs.Read.{Reading, no_lesson, lesson, lesson_of, entries_of}
use Rattle.event_body.specs.Body.{event_of, payload_of}
use Rattle.replay.specs.Results.{call_with, call_of, result_of, results}
use Rattle.replay.specs.Replay.{calls_of, played_bytes, played_to, reading_plays, replay_checked, replay_answer_of, replay_answer}

-- ---- demand 3

-- after a lesson, of the history of its calls
pub played_demand3 : (l : List LessonEntry) → Demand3Of (history max3420e power_on_chip (calls_of l)) (played_to l)
unfolding played_to
played_demand3 l = demand3 (calls_of l)

-- a replay that is accepted hands back the record after the lesson
accepted_chip : (f : List ℕ) (room : ℕ) → replay_checked f room ≡ (Ok tt) → (replay_answer f room).state ≡ played_to (entries_of (lesson_of f))
accepted_chip f room h = rw h

-- so that demand 3 holds of it
pub replay_demand3 : (f : List ℕ) (room : ℕ) → replay_checked f room ≡ (Ok tt)
    → Demand3Of (history max3420e power_on_chip (calls_of (entries_of (lesson_of f)))) (replay_answer f room).state
replay_demand3 f room h =
    subst (Demand3Of (history max3420e power_on_chip (calls_of (entries_of (lesson_of f))))) (sym (accepted_chip f room h))
    (played_demand3 (entries_of (lesson_of f)))

-- every record that a replay hands back is sound: that of power-on too, where it is refused
pub replay_sound : (f : List ℕ) (room : ℕ) → sound_chip (replay_answer f room).state ≡ true
unfolding played_to run_to
replay_sound f room = of (replay_checked f room)
  where
    of : (v : Checked) → sound_chip (replay_answer_of v (entries_of (lesson_of f))).state ≡ true
    of (Ok tt) = reached_sound (calls_of (entries_of (lesson_of f)))
    of (Err r) = reached_sound []

-- ---- when a replay is refused

-- 13 for what is no lesson, naming the entry that the file's check names
pub refused_13 : (f : List ℕ) (room i : ℕ) → lesson_of f ≡ no_lesson i → replay_checked f room ≡ Err (NoLesson i)
refused_13 f room i h = ap (λ (x : Reading). reading_plays x room) h

-- else 4 exactly where what is to be written does not fit
pub refused_4 : (f : List ℕ) (l : List LessonEntry) (room : ℕ) → lesson_of f ≡ lesson l
    → (replay_checked f room ≡ Err ShortBuffer) ↔ (room < length (played_bytes l))
refused_4 f l room h = (
  λ e. ltb-true room (length (played_bytes l)) (short (ltb room (length (played_bytes l))) (sym (ap (λ (x : Reading). reading_plays x room) h) ∙ e)),
  λ less. ap (λ (x : Reading). reading_plays x room) h ∙ rw (lt-ltb room (length (played_bytes l)) less),
)
  where
    short : (t : Bool) → check ((t, ShortBuffer) ∷ []) ≡ Err ShortBuffer → t ≡ true
    short true e = refl
    short false e = cc

-- ---- each call is lent enough

-- a call is found the same with more room: a transfer of over 4,096 bytes is refused before that is looked at, an IN wants 64
transfer_enough : (sound : Bool) (n room : ℕ) → 4096 ≤ room → check (transfer_grounds sound n room) ≡ check (transfer_grounds sound n 4096)
transfer_enough sound n room h = elim (dec_lt 4096 n) [
  | yes more ↦ rw (lt-ltb 4096 n more)
  | no less ↦
      let few : n ≤ 4096 = omega arith in
      rw (le-ltb 4096 n few, le-ltb room n (omega arith))
]

event_enough : (sound : Bool) (e : Event) (n room : ℕ) → 4096 ≤ room → check (event_grounds sound e n room) ≡ check (event_grounds sound e n 4096)
event_enough sound e n room h = let wide : 64 ≤ room = omega arith in rw (le-ltb room 64 wide)

-- the same answer, the same record
abbrev Alike : Chip → Call → Call → Type 0
Alike c j k = (answer_of max3420e c j ≡ answer_of max3420e c k) × (call_to max3420e c j ≡ call_to max3420e c k)

alike : (c : Chip) (j k : Call) → checked max3420e c j ≡ checked max3420e c k
    → ((v : Checked) → (checked_answer max3420e c j v ≡ checked_answer max3420e c k v) × (checked_to max3420e c j v ≡ checked_to max3420e c k v))
    → Alike c j k
unfolding answer_of call_to
alike c j k e same =
    let v = checked max3420e c k in
    (ap (checked_answer max3420e c j) e ∙ (same v).0, ap (checked_to max3420e c j) e ∙ (same v).1)

transfer_same : (c : Chip) (bytes : List ℕ) (m n : ℕ) (v : Checked)
    → (checked_answer max3420e c (transfer bytes m) v ≡ checked_answer max3420e c (transfer bytes n) v)
    × (checked_to max3420e c (transfer bytes m) v ≡ checked_to max3420e c (transfer bytes n) v)
transfer_same c bytes m n (Ok tt) = (refl, refl)
transfer_same c bytes m n (Err r) = (refl, refl)

event_same : (c : Chip) (e : Event) (vs : List ℕ) (m n : ℕ) (v : Checked)
    → (checked_answer max3420e c (event e vs m) v ≡ checked_answer max3420e c (event e vs n) v)
    × (checked_to max3420e c (event e vs m) v ≡ checked_to max3420e c (event e vs n) v)
event_same c e vs m n (Ok tt) = (refl, refl)
event_same c e vs m n (Err r) = (refl, refl)

-- an entry's call answers with any room of 4,096 bytes or more as it does with 4,096
pub lent_enough : (c : Chip) (room : ℕ) (e : LessonEntry) → 4096 ≤ room → Alike c (call_with room e.kind e.body) (call_of e)
lent_enough c room e h = of (eqb e.kind 1)
  where
    of : (t : Bool) → Alike c (cond t (transfer e.body room) (event (event_of e.body) (payload_of e.body) room))
        (cond t (transfer e.body 4096) (event (event_of e.body) (payload_of e.body) 4096))
    of true =
        alike c (transfer e.body room) (transfer e.body 4096) (transfer_enough (sound_chip c) (length e.body) room h)
        (transfer_same c e.body room 4096)
    of false =
        alike c (event (event_of e.body) (payload_of e.body) room) (event (event_of e.body) (payload_of e.body) 4096)
        (event_enough (sound_chip c) (event_of e.body) (length (payload_of e.body)) room h)
        (event_same c (event_of e.body) (payload_of e.body) room 4096)

-- and so does a whole lesson
enough_from : (c : Chip) (room : ℕ) (l : List LessonEntry) → 4096 ≤ room
    → (results (history max3420e c (map (λ (e : LessonEntry). call_with room e.kind e.body) l)) ≡ results (history max3420e c (calls_of l)))
    × (run_to max3420e c (map (λ (e : LessonEntry). call_with room e.kind e.body) l) ≡ run_to max3420e c (calls_of l))
unfolding history results run_to
enough_from c room [] h = (refl, refl)
enough_from c room (e ∷ es) h =
    let one = lent_enough c room e h in
    let rest = enough_from (call_to max3420e c (call_of e)) room es h in
    let calls = map (λ (x : LessonEntry). call_with room x.kind x.body) es in (
      ap₂ (λ (a : Answer) (d : Chip). result_of a ++ results (history max3420e d calls)) one.0 one.1
          ∙ ap (λ (vs : List ℕ). result_of (answer_of max3420e c (call_of e)) ++ vs) rest.0,
      ap (λ (d : Chip). run_to max3420e d calls) one.1 ∙ rest.1,
    )

pub lesson_enough : (room : ℕ) (l : List LessonEntry) → 4096 ≤ room
    → (results (history max3420e power_on_chip (map (λ (e : LessonEntry). call_with room e.kind e.body) l)) ≡ played_bytes l)
    × (run_to max3420e power_on_chip (map (λ (e : LessonEntry). call_with room e.kind e.body) l) ≡ played_to l)
unfolding played_bytes played_to
lesson_enough room l h = enough_from power_on_chip room l h
