-- The answer of a step, part by part; its numbers are those of the refusal, or of the firmware's reply, which never refuses a step.
use Rattle.std.specs.Prelude.{Option, None, Result, Ok, Err}
use Rattle.refusal.specs.declared.Refusal.{Refusal}
use mathlib.Core.Path.{◌≡◌, refl, sym, ap, ◌∙◌, subst}
use mathlib.Core.Bool.{Bool, true, false, cond}
use mathlib.Core.List.{map}
use Prim.Native.Nat.{ℕ}
use native.Mathlib.Omega.{arith}
use borrow.Author.Tests.{not-false}
use Rattle.bits.proofs.Cases.{and_true, cond_same}
use Rattle.bits.proofs.First.{first_each, none, ◌⨾◌}
use Rattle.refusal.specs.Check.{Checked, tells}
use Rattle.refusal.specs.Check.{ground, checked_number, checked_found}
use Rattle.refusal.proofs.Check.{accepted_none}
use Rattle.chip.specs.declared.Chip.{Chip}
use Rattle.chip.specs.Pin.{pin_of}
use Rattle.chip.specs.Sound.{sound_chip}
use Rattle.request.specs.declared.Firmware.{Firmware}
use Rattle.request.specs.Record.{sound_firmware}
use Rattle.firmware.specs.declared.RequestReply.{RequestReply}
use Rattle.firmware.specs.Answer.{request_kind, request_count}
use Rattle.board_record.specs.declared.Board.{Board}
use Rattle.step_transfers.specs.Step.{sudav, served}
use Rattle.board_record.specs.Record.{sound_board}
use Rattle.board.specs.Board.{step_grounds, step_checked, replied_step, step_reply_of, step_refusal, step_found, step_kind}
use Rattle.board.specs.Board.{BoardStep, step_count, board_answer_with, stepped_kind, stepped_count, board_step}
use Rattle.step_transfers.proofs.Setup.{firmware_accepts}

-- what the step's reply tells is what the firmware's does
replied : {A : Type 0} (n : Result (Option RequestReply) Refusal → A) (m : Result RequestReply Refusal → A) (t : Bool) (r : Result RequestReply Refusal) → n (replied_step r) ≡ m r
    → n (cond t (replied_step r) (Ok None)) ≡ cond t (m r) (n (Ok None))
replied n m true r e = e
replied n m false r e = refl

refusal_is : (r : Result RequestReply Refusal) → tells (replied_step r) ≡ tells r
refusal_is (Err r) = refl
refusal_is (Ok a) = refl

kind_is : (r : Result RequestReply Refusal) → step_kind (replied_step r) ≡ request_kind r
kind_is (Err r) = refl
kind_is (Ok a) = refl

count_is : (r : Result RequestReply Refusal) → step_count (replied_step r) ≡ request_count r
count_is (Err r) = refl
count_is (Ok a) = refl

module _ (b : Board) where
  abbrev reply : Result RequestReply Refusal
  reply = (served b.chip b.firmware).answer.reply

  -- refusal and numbers, of a call that was checked so
  checked_numbers : (v : Checked) → (v ≡ (Ok tt) → sound_firmware b.firmware ≡ true)
      → (tells (step_reply_of b v) ≡ v) × (step_kind (step_reply_of b v) ≡ stepped_kind b v)
      × (step_count (step_reply_of b v) ≡ stepped_count b v)
  checked_numbers (Ok tt) sound = (
    replied tells tells (sudav b.chip) reply (refusal_is reply)
        ∙ ap (λ (v : Checked). cond (sudav b.chip) v (Ok tt)) (firmware_accepts b.chip b.firmware (sound refl))
        ∙ cond_same (sudav b.chip) (Ok tt),
    replied step_kind request_kind (sudav b.chip) reply (kind_is reply),
    replied step_count request_count (sudav b.chip) reply (count_is reply),
  )
  checked_numbers (Err r) sound = (refl, refl, refl)

  -- an accepted step has a sound firmware
  accepted_sound : (room : ℕ) → step_checked b room ≡ (Ok tt) → sound_firmware b.firmware ≡ true
  accepted_sound room e =
      (and_true (sound_chip b.chip) (sound_firmware b.firmware)
      (not-false (sound_board b) (accepted_none (step_grounds b room) e 0))).1

  step_numbers_law : (room : ℕ) → (tells (board_step b room).reply ≡ step_checked b room)
      × (step_kind (board_step b room).reply ≡ stepped_kind b (step_checked b room))
      × (step_count (board_step b room).reply ≡ stepped_count b (step_checked b room))
  step_numbers_law room = checked_numbers (step_checked b room) (accepted_sound room)

  -- a step is refused as its check says
  pub step_refusal_law : (room : ℕ) → tells (board_step b room).reply ≡ step_checked b room
  step_refusal_law room = (step_numbers_law room).0

  -- so never with 8, and it tells no length: the firmware's eight bytes come from R4 (`setup_length`)
  pub step_never_8 : (room : ℕ) → (step_refusal (board_step b room).reply ≡ 8 → ⊥) × (step_found (board_step b room).reply ≡ 0)
  step_never_8 room =
      subst (λ (v : Checked). (checked_number v ≡ 8 → ⊥) × (checked_found v ≡ 0)) (sym (step_refusal_law room))
      (first_each (λ (v : Checked). (checked_number v ≡ 8 → ⊥) × (checked_found v ≡ 0)) (map ground (step_grounds b room)) (Ok tt)
      ((λ t. ((λ n. omega arith), refl)) ⨾ (λ t. ((λ n. omega arith), refl)) ⨾ none) ((λ n. omega arith), refl))

  -- an answer that is the definition's has its numbers
  pub step_told : (room : ℕ) {r : BoardStep} {E : Type 0} → (r ≡ board_step b room) × E → (r ≡ board_step b room) × E
      × (tells r.reply ≡ step_checked b room) × (step_kind r.reply ≡ stepped_kind b (step_checked b room))
      × (step_count r.reply ≡ stepped_count b (step_checked b room))
  step_told room {r} e =
      let n = step_numbers_law room in (
        e.0,
        e.1,
        ap (λ (x : BoardStep). tells x.reply) e.0 ∙ n.0,
        ap (λ (x : BoardStep). step_kind x.reply) e.0 ∙ n.1,
        ap (λ (x : BoardStep). step_count x.reply) e.0 ∙ n.2,
      )

-- ---- the answer of a step, part by part

pub stepped_is : {b : Board} {r r' : Result (Option RequestReply) Refusal} {chip : Chip} {f : Firmware} → b.chip ≡ chip → b.firmware ≡ f → r ≡ r'
    → board_answer_with b r ≡ record { state = record { chip = chip; firmware = f }; reply = r'; pin = pin_of chip.registers }
stepped_is p q e = λ i. record { state = record { chip = p i; firmware = q i }; reply = e i; pin = pin_of (p i).registers }
