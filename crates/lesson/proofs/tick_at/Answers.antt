-- What is read at the row's second byte is the row's tick.
use Rattle.std.proofs.Common.{◌+◌, ◌*◌, sym, ap, ◌∙◌, drop-drop}
use Rattle.little_endian.specs.Number.{from_little_endian}
use Rattle.lesson.proofs.tick_at.Goals as goal

pub returns : goal.returns
returns c = c.read_u32.ensures ∙ ap (from_little_endian 4) (sym (drop-drop 1 (2 + 11 * c.args.i) c.args.file.now))
