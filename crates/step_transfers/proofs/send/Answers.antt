-- A transfer of one data byte, which a sound record does not refuse (`sends_write`).
use mathlib.Core.Path.{ap, ◌∙◌}
use Rattle.chip.specs.declared.Chip.{Chip}
use Rattle.model.specs.Spi.{command_register, write_to}
use Rattle.rules.specs.Spi.{max3420e_spi}
use Rattle.spi.proofs.Call.{acknowledge_part}
use Rattle.step_transfers.proofs.Sends.{sends_write}
use Rattle.step_transfers.proofs.send.Goals as goal

pub returns : goal.returns
returns c =
    let a = c.args in
    c.write_register.ensures
    ∙ rw c.acknowledged-epstalls.ensures
    (ap (λ (d : Chip). write_to max3420e_spi d (command_register a.command) a.byte) (acknowledge_part a.chip a.command)
    ∙ sends_write a.chip c.requires.0 a.command a.byte c.requires.1)
