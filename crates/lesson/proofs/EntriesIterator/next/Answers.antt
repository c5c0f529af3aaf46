-- The entries that are left begin with the next one.
use Rattle.std.proofs.Common.{◌<◌, length, arith, add-one}
use Rattle.std.proofs.Math.Seq.{drop-cons}
use Rattle.lesson.specs.Kind.{entry_told}
use Rattle.lesson.proofs.EntriesIterator.next.Goals as goal

pub returns-clause-steps : goal.returns-clause-steps
returns-clause-steps c =
    let l = c.args.self.now.lesson.now in
    let i = c.args.self.now.next in
    let e = entry_told c.entry-entry.result in
    let more : i < length l = omega arith in
    rw (add-one, drop-cons l i e, c.entry-entry.ensures e)
