-- Entry i of a lesson's file: where it is, its call, and the turn of the loop that makes it.
use mathlib.Core.Path.{◌≡◌, sym, ap, ap₂, subst, ◌∙◌}
use mathlib.Core.List.{List, ◌∷◌}
use Prim.Native.Nat.{ℕ, ◌+◌, ◌≤◌}
use native.Mathlib.Omega.{arith}
use lib.ListN.{length, take}
use lib.Seq.{sets}
use Rattle.chip.specs.declared.Chip.{Chip}
use Rattle.model.specs.Call.{Call, call_to, answer_of, buffer_after}
use Rattle.rules.specs.Event.{max3420e}
use Rattle.flat.specs.declared.FlatAnswer.{FlatAnswer}
use Rattle.lesson.specs.Lesson.{LessonEntry}
use Rattle.replay.specs.Results.{call_with, call_of, answer_bytes, result_with, result_of, flat_answer}
use Rattle.replay.specs.Replay.{played_bytes}
use Rattle.replay.proofs.Numbers.{call_numbered, call_chip, buffer_bytes, entry_within}
use Rattle.replay.proofs.Turn.{Turn, total, turn}

-- ---- what a call of an entry hands back

module _ (c : Chip) (kind : ℕ) (body reply after : List ℕ) (answer : FlatAnswer) (room : length reply ≡ 4096)
    (told : answer ≡ flat_answer c (call_with (length reply) kind body)) where
  abbrev pub made : Call
  made = call_with 4096 kind body

  same : answer ≡ flat_answer c made
  same = told ∙ ap (λ (n : ℕ). flat_answer c (call_with n kind body)) room

  pub counted : answer.count ≡ length (answer_bytes (answer_of max3420e c made))
  counted = ap (λ (a : FlatAnswer). a.count) same ∙ (call_numbered c made).count

  pub few : answer.count ≤ 4096
  few = omega (arith, counted, entry_within c 4096 kind body (omega arith))

  module _ (lent : after ≡ buffer_after (answer_of max3420e c (call_with (length reply) kind body)) reply) where
    bytes : take answer.count after ≡ answer_bytes (answer_of max3420e c made)
    bytes =
        ap₂ take counted (lent ∙ ap (λ (n : ℕ). buffer_after (answer_of max3420e c (call_with n kind body)) reply) room)
        ∙ buffer_bytes (answer_of max3420e c made) reply

    pub result : result_with answer.refusal answer.pid (take answer.count after) ≡ result_of (answer_of max3420e c made)
    result =
        ap (λ (vs : List ℕ). result_with answer.refusal answer.pid vs) bytes
        ∙ ap₂ (λ (r p : ℕ). result_with r p (answer_bytes (answer_of max3420e c made)))
        (ap (λ (a : FlatAnswer). a.refusal) same ∙ (call_numbered c made).refusal)
        (ap (λ (a : FlatAnswer). a.pid) same ∙ (call_numbered c made).pid)

    pub next : answer.chip ≡ call_to max3420e c made
    next = ap (λ (a : FlatAnswer). a.chip) same ∙ call_chip c made

-- ---- the next entry

module _ (l es : List LessonEntry) (e : LessonEntry) (c : Chip) (size : ℕ) (out out₀ : List ℕ) (t : Turn l (e ∷ es) c size out out₀)
    (reply after : List ℕ) (answer : FlatAnswer) (room : length reply ≡ 4096)
    (told : answer ≡ flat_answer c (call_with (length reply) e.kind e.body)) where
  -- its result is a part of the whole
  pub part : size + (4 + answer.count) ≤ length (played_bytes l)
  part = omega (arith, counted c e.kind e.body reply after answer room told, total l es e c size out out₀ t)

  pub turned : (out' : List ℕ) → after ≡ buffer_after (answer_of max3420e c (call_with (length reply) e.kind e.body)) reply
      → out' ≡ sets out size (result_with answer.refusal answer.pid (take answer.count after))
      → Turn l es answer.chip (size + (4 + answer.count)) out' out₀
  turned out' lent written =
      subst (λ (d : Chip). Turn l es d (size + (4 + answer.count)) out' out₀)
      (sym (next c e.kind e.body reply after answer room told lent))
      (subst (λ (n : ℕ). Turn l es (call_to max3420e c (call_of e)) (size + (4 + n)) out' out₀)
      (sym (counted c e.kind e.body reply after answer room told))
      (subst (λ (o : List ℕ). Turn l es (call_to max3420e c (call_of e)) (size + (4 + length (answer_bytes (answer_of max3420e c (call_of e))))) o out₀)
      (sym (written ∙ ap (sets out size) (result c e.kind e.body reply after answer room told lent)))
      (turn l es e c size out out₀ t)))
