-- A desk that there is, read at its place whatever stands for those past the end.
use Rattle.std.proofs.Common.{◌≡◌, ◌<◌, ℕ, length, slice_index_or, sym, ◌∙◌, ap, arith}
use Rattle.classroom_record.specs.declared.Desk.{Desk}
use Rattle.classroom_record.specs.declared.DeskNumber.{DeskNumber}
use Rattle.classroom_record.specs.declared.Classroom.{Classroom}
use Rattle.classroom_record.specs.Record.{desk_at}
use Rattle.classroom.proofs.Here.{desk_read}

-- f tells which read is meant
pub seat_read : (room : Classroom) (n : DeskNumber) (i : ℕ) (e : Desk) {A : Type 0} {r : A} (f : Desk → A) → length room.desks ≡ 16
    → i ≡ n.0 → i < 16 → r ≡ f (slice_index_or room.desks i e) → slice_index_or room.desks i e ≡ desk_at room n
seat_read room n i e f sixteen is h g =
    ap (λ (j : ℕ). slice_index_or room.desks j e) is ∙ desk_read room n sixteen (omega (arith, is, h)) e
