-- There is room for every lesson of its entries and its bytes (`most_file`).
use Rattle.std.proofs.Common.{arith}
use Rattle.replay.proofs.Most.{most_file}
use Rattle.replay.proofs.play_lesson.Goals as goal

pub play_all-run-requires : goal.play_all-run-requires
play_all-run-requires c = omega (arith, most_file c.args.lesson.now)

pub play_kept-requires : goal.play_kept-requires
play_kept-requires c = omega (arith, most_file c.args.lesson.now)
