-- The header, the table and the bodies that are put one after the other are the file.
use Rattle.lesson_writer.proofs.File.{put_file}
use Rattle.lesson_writer.proofs.put_file.Goals as goal

pub returns : goal.returns
returns c =
    put_file c.args.kinds.now c.args.ticks.now c.args.lengths.now c.args.bodies.now c.requires.together c.args.file.now _ _
    c.put_table.ensures
    c.put_bytes.ensures
