-- The sum that the chain gives is the total.
use Rattle.std.proofs.Common.{rules, ◌≡◌, ◌∙◌}
use Rattle.std.specs.List.{sum}
use Rattle.lesson_writer.proofs.Rows.{total_sum}
use Rattle.lesson_writer.proofs.sum.Goals as goal

pub returns : goal.returns
returns c =
    let found : c.sum.result ≡ sum c.args.lengths.now = search rules in
    found ∙ total_sum c.args.lengths.now
