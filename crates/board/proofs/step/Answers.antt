-- The tests are the definition's, and `serve` makes the rest.
use mathlib.Core.Path.{refl, ◌∙◌}
use lib.ListN.{length}
use borrow.Author.Tests.{lt-ltb, le-ltb, eq-eqb, ne_eqb}
use Rattle.model.specs.Call.{run_to}
use Rattle.step_transfers.specs.Step.{step_calls}
use Rattle.board.specs.Board.{board_to}
use Rattle.board.proofs.Numbers.{stepped_is, step_told}
use Rattle.board.proofs.step.Goals as goal

pub returns-then-not-is_sound : goal.returns-then-not-is_sound
unfolding board_to run_to
returns-then-not-is_sound c =
    step_told c.args.board (length c.args.reply.now) (rw (← c.if-not-is_sound.ensures) (c.answer_with.ensures, refl))

pub returns-then-reply-lt64 : goal.returns-then-reply-lt64
unfolding board_to run_to
returns-then-reply-lt64 c =
    step_told c.args.board (length c.args.reply.now)
    (rw (← c.if-not-is_sound.ensures, lt-ltb _ 64 c.if-reply-lt64.true) (c.answer_with-then-reply-lt64.ensures, refl))

pub returns-then-board-eq0 : goal.returns-then-board-eq0
unfolding board_to run_to step_calls
returns-then-board-eq0 c =
    step_told c.args.board (length c.args.reply.now)
    (rw (← c.if-not-is_sound.ensures, le-ltb _ 64 c.if-reply-lt64.false, eq-eqb _ 0 c.if-board-eq0.true)
    (c.answer_with-then-board-eq0.ensures, refl))

pub returns : goal.returns
unfolding board_to step_calls
returns c =
    let s = c.serve-served.ensures in
    step_told c.args.board (length c.args.reply.now)
    (rw (← c.if-not-is_sound.ensures, le-ltb _ 64 c.if-reply-lt64.false, ne_eqb _ 0 c.if-board-eq0.false)
    (c.answer_with-2.ensures ∙ stepped_is s.0 s.1 (c.reply_of.ensures ∙ rw s.2), s.3))
