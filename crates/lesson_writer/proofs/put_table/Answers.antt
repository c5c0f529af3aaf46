-- The next row and the rows after it are the rows that were left.
use Rattle.std.proofs.Common.{ℕ, ◌+◌, ◌*◌, List, length, get_or, drop, sym, ap, ◌∙◌, arith, drop_of_length-le}
use Rattle.std.proofs.lemmas.List.Edits.{sets}
use Rattle.std.proofs.Math.Seq.{length-sets}
use Rattle.lesson.specs.Lesson.{row}
use Rattle.lesson_writer.specs.Parts.{rows}
use Rattle.lesson_writer.proofs.Rows.{row_put, total_next}
use Rattle.lesson_writer.proofs.put_table.Goals as goal

pub loop-i-preserved : goal.loop-i-preserved
loop-i-preserved c =
    let l = c.loop-i in
    let ks = c.args.kinds.now in
    let ts = c.args.ticks.now in
    let ns = c.args.lengths.now in
    let next = c.put_row.ensures in
    record {
      sized =
          ap length next
          ∙ length-sets l.file (2 + 11 * l.i) (row (get_or ks l.i 0) (get_or ts l.i 0) l.offset (get_or ns l.i 0))
          ∙ l.invariant.sized;
      small = omega (arith, total_next l.i ns (omega arith));
      same =
          ap (λ (d : List ℕ). sets d (2 + 11 * (l.i + 1))
          (rows (l.offset + get_or ns l.i 0) (drop (l.i + 1) ks) (drop (l.i + 1) ts) (drop (l.i + 1) ns))) next
          ∙ row_put ks ts ns l.file l.i l.offset c.loop-i-test.true c.requires.ticks c.requires.lengths
          ∙ l.invariant.same;
    }

pub returns : goal.returns
unfolding rows
returns c =
    let l = c.loop-i in
    let none = drop_of_length-le c.args.kinds.now {i = l.i} (omega arith) in
    sym (ap (λ (ks : List ℕ). sets l.file (2 + 11 * l.i)
    (rows l.offset ks (drop l.i c.args.ticks.now) (drop l.i c.args.lengths.now))) none)
    ∙ l.invariant.same
