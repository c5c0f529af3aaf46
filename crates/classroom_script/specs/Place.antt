-- The line at a desk in a classroom's line: what is left of it after the desk and its key.
use Rattle.std.specs.Prelude.{ℕ, List, []}
use Rattle.classroom_script.specs.declared.ClassroomCommand.{ClassroomCommand}
use Rattle.classroom_script.specs.declared.ClassroomCommand.TheVariants.{Open, Close, Desks, Help, Call}

abbrev pub desk_line : ClassroomCommand → List ℕ
desk_line (Open d k) = []
desk_line (Close d) = []
desk_line Desks = []
desk_line Help = []
desk_line (Call d k line) = line.now
