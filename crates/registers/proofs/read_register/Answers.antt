-- The rest are the plain registers (`read_others`).
use mathlib.Core.Path.{◌∙◌}
use borrow.Author.Rules.{rules}
use Rattle.registers.proofs.Rest.{NotRead, read_others}
use Rattle.registers.proofs.read_register.Goals as goal

pub returns-in_default : goal.returns-in_default
returns-in_default c =
    let none : NotRead c.args.register = search rules in
    c.plain_byte.ensures ∙ read_others c.args.chip c.args.register none
