-- The chip's event, and the firmware's record put back where it starts anew.
use mathlib.Core.Bool.{and-false}
use mathlib.Core.Path.{refl, ap}
use Rattle.refusal.specs.Check.{tells}
use Rattle.bus.specs.EventCall.{event_pid, event_count}
use Rattle.event_answer.specs.Answer.{EventAnswer}
use Rattle.model.specs.Call.{run_to}
use Rattle.board.specs.Board.{BoardEvent, board_to}
use Rattle.board_record.specs.Record.{firmware_for, starts_anew}
use Rattle.board.proofs.event.Goals as goal

pub returns-then-not-is_sound : goal.returns-then-not-is_sound
unfolding board_to run_to
returns-then-not-is_sound c =
    let e = c.answer_with.ensures in
    rw (← c.if-not-is_sound.ensures) (
      rw (and-false (starts_anew c.args.event)) e,
      refl,
      ap (λ (a : BoardEvent). tells a.reply) e,
      ap (λ (a : BoardEvent). event_pid a.reply) e,
      ap (λ (a : BoardEvent). event_count a.reply) e,
    )

pub returns : goal.returns
unfolding board_to run_to
returns c =
    let a = c.args in
    let e = c.event-answer.ensures in
    rw (← c.if-not-is_sound.ensures, c.firmware_at.ensures) (
      ap
          (λ (x : EventAnswer). record {
            state = record { chip = x.state; firmware = firmware_for a.board.firmware a.event x.reply };
            reply = x.reply;
            pin = x.pin;
          })
          e.value.0,
      e.value.1,
      e.numbers.0,
      e.numbers.1,
      e.numbers.2,
    )
