-- The board's own answer, on the desk's records.
use Rattle.std.proofs.Common.{◌≡◌, length, rules}
use Rattle.model.specs.Call.{Call}
use Rattle.board.specs.Board.{board_transfer}
use Rattle.classroom_record.specs.declared.Desk.{Desk}
use Rattle.classroom.specs.Calls.{desk_transfer, transfer_lent}
use Rattle.desk.proofs.Seat.{seat_read}
use Rattle.desk.proofs.transfer.Goals as goal

pub returns-in-Ok : goal.returns-in-Ok
unfolding desk_transfer transfer_lent
returns-in-Ok c =
    let a = c.args in
    let s = c.in-Ok.ensures in
    let sixteen : length a.room.desks ≡ 16 = search rules in
    let found = seat_read a.room a.number c.in-Ok.i _ (λ (d : Desk). board_transfer d.board (Call.transfer a.bytes.now (length a.reply.now))) sixteen s.0 s.1
    c.transfer-answer.ensures.0 in
    rw (s.2, ← found, ← s.0) (rw c.transfer-answer.ensures.0, c.transfer-answer.ensures.1)

pub returns-in-Err : goal.returns-in-Err
unfolding desk_transfer transfer_lent
returns-in-Err c = rw c.in-Err.ensures (search rules)
