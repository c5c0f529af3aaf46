-- The chip's transfer, unless the firmware's record is not sound.
use mathlib.Core.Path.{refl, ap}
use Rattle.refusal.specs.Check.{tells}
use Rattle.spi.specs.Transfer.{TransferAnswer, transfer_count}
use Rattle.model.specs.Call.{run_to}
use Rattle.board.specs.Board.{BoardTransfer, board_to}
use Rattle.board.proofs.transfer.Goals as goal

pub returns-then-not-is_sound : goal.returns-then-not-is_sound
unfolding board_to run_to
returns-then-not-is_sound c =
    let e = c.answer_with.ensures in
    rw (← c.if-not-is_sound.ensures)
    (e, refl, ap (λ (a : BoardTransfer). tells a.reply) e, ap (λ (a : BoardTransfer). transfer_count a.reply) e)

pub returns : goal.returns
unfolding board_to run_to
returns c =
    let f = c.args.board.firmware in
    let t = c.transfer-answer.ensures in
    rw (← c.if-not-is_sound.ensures) (
      ap (λ (a : TransferAnswer). record { state = record { chip = a.state; firmware = f }; reply = a.reply; pin = a.pin }) t.0,
      t.1,
      t.2,
      t.3,
    )
