-- No other number has a rule among these (`ignored_others`).
use borrow.Author.Rules.{rules}
use Rattle.registers.proofs.Rest.{NotPlain, ignored_others}
use Rattle.registers.proofs.write_plain.Goals as goal

pub returns-in_default : goal.returns-in_default
returns-in_default c d =
    let none : NotPlain c.args.register = search rules in
    ignored_others _ c.args.byte c.args.register none
