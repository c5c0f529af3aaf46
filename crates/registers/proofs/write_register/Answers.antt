-- The rest are the registers that change no other part of the record (`plain_others`).
use mathlib.Core.Path.{◌∙◌}
use borrow.Author.Rules.{rules}
use Rattle.registers.proofs.Rest.{Others, plain_others}
use Rattle.registers.proofs.write_register.Goals as goal

pub returns-in-2 : goal.returns-in-2
returns-in-2 c = rw c.in-2.is c.write_ep2infifo.ensures

pub returns-in_default : goal.returns-in_default
returns-in_default c =
    let none : Others c.args.register = search rules in
    c.write_plain-written.ensures c.args.chip ∙ plain_others c.args.chip c.args.byte c.args.register none
