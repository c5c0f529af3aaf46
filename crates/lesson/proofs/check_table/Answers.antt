-- What the check finds at a row, and at the end, is what the rows that are left read as.
use Rattle.std.proofs.Common.{ℕ, ◌+◌, ◌-◌, ◌*◌, drop, sym, ap, ◌∙◌, arith}
use Rattle.lesson.specs.Read.{read_from, reading_checked}
use Rattle.lesson.proofs.Turn.{row_missing, row_unfit, row_read, end_right, end_wrong}
use Rattle.lesson.proofs.check_table.Goals.{then-file-place-via-then-file-place, then-file-place-via-else-file-place+then-not-row_fits}
use Rattle.lesson.proofs.check_table.Goals as goal

pub returns-then-file-place : goal.returns-then-file-place
returns-then-file-place c =
    let l = c.loop-i in
    let f = c.args.file.now in
    elim c.then-file-place.branch [
      | then-file-place-via-then-file-place w ↦ row_missing c.args.n l.i l.offset f c.loop-i-test.true w.if-file-place.true
          ∙ l.invariant.same
      | then-file-place-via-else-file-place+then-not-row_fits w ↦
          row_unfit c.args.n l.i l.offset f c.loop-i-test.true w.if-file-place.false (sym w.if-not-row_fits.ensures)
          ∙ l.invariant.same
    ]

pub loop-i-preserved : goal.loop-i-preserved
loop-i-preserved c =
    let l = c.loop-i in
    let f = c.args.file.now in
    let n = c.args.n in
    record {
      small = omega arith;
      same =
          ap (λ (m : ℕ). reading_checked (read_from (n - (l.i + 1)) (l.i + 1) (l.offset + m) f (drop (2 + 11 * (l.i + 1)) f))) c.read_u16.ensures
          ∙ row_read n l.i l.offset f c.loop-i-test.true c.if-file-place.false (sym c.if-not-row_fits.ensures)
          ∙ l.invariant.same;
    }

pub returns-then-offset-file : goal.returns-then-offset-file
returns-then-offset-file c =
    let l = c.loop-i in
    let f = c.args.file.now in
    end_right c.args.n l.i l.offset f (drop (2 + 11 * l.i) f) (omega arith) (omega arith) c.if-offset-file.true ∙ l.invariant.same

pub returns-else-offset-file : goal.returns-else-offset-file
returns-else-offset-file c =
    let l = c.loop-i in
    let f = c.args.file.now in
    end_wrong c.args.n l.i l.offset f (drop (2 + 11 * l.i) f) (omega arith) (omega arith) c.if-offset-file.false ∙ l.invariant.same
