-- A board call is a list of chip calls, so a run of board calls is a run of the theorem's: demand 3 holds after every list of board
-- transfers, board events and board steps, refused ones included; both records are then sound, and refusal 1 never answers a run.
use Rattle.std.specs.Prelude.{Ok, Err}
use mathlib.Core.Path.{◌≡◌, refl, sym, ap, ◌∙◌, subst}
use mathlib.Core.Bool.{Bool, true, false, cond, ◌&&◌}
use mathlib.Core.List.{List, [], ◌∷◌}
use Prim.Native.Nat.{ℕ}
use native.Mathlib.Omega.{arith}
use lib.Dec.{ltb}
use lib.ListN.{replicate}
use Rattle.bits.proofs.Cases.{cond_elim}
use Rattle.refusal.specs.declared.Refusal.TheVariants.{Unsound, ShortBuffer}
use Rattle.refusal.specs.Check.{Checked}
use Rattle.refusal.specs.Check.{check, checked_number}
use Rattle.chip.specs.declared.Chip.{Chip}
use Rattle.chip.specs.Record.{power_on_chip}
use Rattle.chip.specs.Sound.{sound_chip}
use Rattle.request.specs.declared.Firmware.{Firmware}
use Rattle.request.specs.Record.{sound_firmware}
use Rattle.firmware.proofs.Laws.{answer_sound}
use Rattle.model.specs.Call.{Call, transfer, event, Answer, refused, answer_of, run_to, history}
use Rattle.model.proofs.Runs.{run_append}
use Rattle.rules.specs.Event.{max3420e}
use Rattle.rules.specs.Demand.{Demand3Of}
use Rattle.rules.proofs.Theorem.{demand3, reached_sound, reached_accepted}
use Rattle.bus.specs.EventCall.{event_reply_of}
use Rattle.board_record.specs.declared.Board.{Board}
use Rattle.step_transfers.specs.Step.{setup_read, sudav}
use Rattle.board.specs.Board.{BoardCall, on_chip, steps, board_answer, firmware_at}
use Rattle.board_record.specs.Record.{power_on_board, sound_board, starts_anew, is_done}
use Rattle.board.specs.Board.{step_checked, step_firmware, firmware_to, chip_calls, board_to}
use Rattle.board_runs.specs.Runs.{board_run_to, all_chip_calls}

-- ---- a run of board calls makes the run of its chip calls

pub board_run : (b : Board) (ks : List BoardCall) → (board_run_to b ks).chip ≡ run_to max3420e b.chip (all_chip_calls b ks)
unfolding board_run_to all_chip_calls board_to run_to
board_run b [] = refl
board_run b (k ∷ ks) =
    board_run (board_to b k) ks ∙ sym (run_append max3420e b.chip (chip_calls b k) (all_chip_calls (board_to b k) ks))

-- demand 3: of the history of the chip calls, and of the chip's record after the board calls
pub board_demand3 : (ks : List BoardCall)
    → Demand3Of (history max3420e power_on_chip (all_chip_calls power_on_board ks)) (board_run_to power_on_board ks).chip
board_demand3 ks =
    subst (Demand3Of (history max3420e power_on_chip (all_chip_calls power_on_board ks))) (sym (board_run power_on_board ks))
    (demand3 (all_chip_calls power_on_board ks))

-- ---- both records are sound

at_sound : (f : Firmware) (k : Call) (a : Answer) → sound_firmware f ≡ true → sound_firmware (firmware_at f k a) ≡ true
at_sound f (transfer bytes room) a s = s
at_sound f (event e payload room) a s =
    cond_elim (λ (g : Firmware). sound_firmware g ≡ true) (starts_anew e && is_done (event_reply_of a)) (λ _. refl) (λ _. s)

step_sound : (b : Board) (v : Checked) → sound_firmware b.firmware ≡ true → sound_firmware (step_firmware b v) ≡ true
step_sound b (Ok tt) s =
    cond_elim (λ (g : Firmware). sound_firmware g ≡ true) (sudav b.chip)
    (λ _. answer_sound (setup_read b.chip) b.firmware (replicate 64 0) s) (λ _. s)
step_sound b (Err r) s = s

firmware_sound : (b : Board) (k : BoardCall) → sound_firmware b.firmware ≡ true → sound_firmware (firmware_to b k) ≡ true
firmware_sound b (on_chip k) s = at_sound b.firmware k (board_answer b k) s
firmware_sound b (steps room) s = step_sound b (step_checked b room) s

run_firmware : (b : Board) (ks : List BoardCall) → sound_firmware b.firmware ≡ true → sound_firmware (board_run_to b ks).firmware ≡ true
unfolding board_run_to board_to
run_firmware b [] s = s
run_firmware b (k ∷ ks) s = run_firmware (board_to b k) ks (firmware_sound b k s)

pub board_reached_sound : (ks : List BoardCall) → sound_board (board_run_to power_on_board ks) ≡ true
board_reached_sound ks =
    rw (ap sound_chip (board_run power_on_board ks) ∙ reached_sound (all_chip_calls power_on_board ks), run_firmware power_on_board ks refl)

-- ---- so refusal 1 never answers a run

pub board_reached_accepted : (ks : List BoardCall) (k : Call) → board_answer (board_run_to power_on_board ks) k ≡ refused Unsound → ⊥
board_reached_accepted ks k e =
    reached_accepted (all_chip_calls power_on_board ks) k
    (ap (λ (c : Chip). answer_of max3420e c k) (sym (board_run power_on_board ks))
    ∙ sym (ap (λ (t : Bool). cond t (answer_of max3420e (board_run_to power_on_board ks).chip k) (refused Unsound))
    (run_firmware power_on_board ks refl)) ∙ e)

-- nor a step: a sound board is refused for its buffer only
short_only : (t : Bool) → check ((false, Unsound) ∷ (t, ShortBuffer) ∷ []) ≡ Err Unsound → ⊥
short_only true e = let z : ◌≡◌ {A = ℕ} 4 1 = ap checked_number e in absurd (omega arith)
short_only false e = let z : ◌≡◌ {A = ℕ} 0 1 = ap checked_number e in absurd (omega arith)

pub board_step_accepted : (ks : List BoardCall) (room : ℕ) → step_checked (board_run_to power_on_board ks) room ≡ Err Unsound → ⊥
board_step_accepted ks room e = short_only (ltb room 64) (rw (board_reached_sound ks) at e)
