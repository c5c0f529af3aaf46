-- A transfer of the command byte alone (`sends_command`).
use mathlib.Core.Path.{◌∙◌}
use Rattle.spi.proofs.Call.{acknowledge_part}
use Rattle.step_transfers.proofs.Sends.{sends_command}
use Rattle.step_transfers.proofs.acknowledge.Goals as goal

pub returns : goal.returns
returns c =
    rw c.acknowledged-epstalls.ensures
    (acknowledge_part c.args.chip 0x91 ∙ sends_command c.args.chip c.requires 0x91)
