-- No other read moves anything (`kept_others`).
use borrow.Author.Rules.{rules}
use Rattle.registers.proofs.Rest.{NotMoved, kept_others}
use Rattle.registers.proofs.move_register.Goals as goal

pub returns-in_default : goal.returns-in_default
returns-in_default c =
    let none : NotMoved c.args.register = search rules in
    kept_others c.args.chip c.args.register none
