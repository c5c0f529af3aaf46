-- A run copied to a place on is stored there byte by byte.
use Rattle.std.proofs.Common.{◌≡◌, ◌+◌, ◌-◌, length, arith, append_assoc, drop-drop}
use Rattle.std.proofs.lemmas.List.Edits.{sets-eq}
use Rattle.little_endian.proofs.put_bytes.Goals as goal

pub returns : goal.returns
returns c =
    let n = length c.args.run.now in
    let size : c.args.at + n - c.args.at ≡ n = omega arith in
    rw (
      c.copy_from_slice.ensures.after,
      sets-eq c.args.run.now c.args.output.now c.args.at c.requires,
      size,
      drop-drop,
      append_assoc,
    )
