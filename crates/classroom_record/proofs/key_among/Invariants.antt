-- The key stands at a desk exactly when it stands at one of those that are left.
use Rattle.std.proofs.Common.{◌≡◌, drop}
use Rattle.classroom_record.specs.Record.{key_among}
use Rattle.classroom_record.proofs.key_among.Given as goal

abbrev pub invariant-loop-desk : goal.invariant-loop-desk
invariant-loop-desk l = key_among (drop l.desk-index l.desks) l.key ≡ key_among l.desks l.key
