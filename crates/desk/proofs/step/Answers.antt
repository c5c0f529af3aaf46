-- The board's own answer, on the desk's records.
use Rattle.std.proofs.Common.{◌≡◌, length, rules}
use Rattle.board.specs.Board.{board_step}
use Rattle.classroom_record.specs.declared.Desk.{Desk}
use Rattle.classroom.specs.Calls.{desk_step, step_lent}
use Rattle.desk.proofs.Seat.{seat_read}
use Rattle.desk.proofs.step.Goals as goal

pub returns-in-Ok : goal.returns-in-Ok
unfolding desk_step step_lent
returns-in-Ok c =
    let a = c.args in
    let s = c.in-Ok.ensures in
    let sixteen : length a.room.desks ≡ 16 = search rules in
    let found = seat_read a.room a.number c.in-Ok.i _ (λ (d : Desk). board_step d.board (length a.reply.now)) sixteen s.0 s.1
    c.step-answer.ensures.0 in
    rw (s.2, ← found, ← s.0) (rw c.step-answer.ensures.0, c.step-answer.ensures.1)

pub returns-in-Err : goal.returns-in-Err
unfolding desk_step step_lent
returns-in-Err c = rw c.in-Err.ensures (search rules)
