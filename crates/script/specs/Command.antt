-- How many bytes of the lent buffer a command counts.
use Rattle.std.specs.Prelude.{ℕ}
use Rattle.script.specs.declared.Command.{Command}
use Rattle.script.specs.declared.Command.TheVariants.{Transfer, Event, Step, Room, Show, Help}

abbrev pub command_count : Command → ℕ
command_count (Transfer n) = n
command_count (Event e n) = n
command_count Step = 0
command_count (Room n) = 0
command_count Show = 0
command_count Help = 0
