-- Each code has its rule.
use Rattle.std.proofs.Common.{◌∙◌, ap, arith}
use Rattle.event_answer.specs.Answer.{outcome_answer}
use Rattle.bus.proofs.Events.{rule_of}
use Rattle.bus.proofs.power_event.Goals as goal

pub returns-in-2 : goal.returns-in-2
returns-in-2 c =
    λ vs. c.settle_oscillator.ensures vs ∙ ap outcome_answer (rule_of 2 c.args.chip c.args.event vs c.in-2.is)

pub returns-in-3 : goal.returns-in-3
returns-in-3 c = λ vs. c.raise_vbus.ensures vs ∙ ap outcome_answer (rule_of 3 c.args.chip c.args.event vs c.in-3.is)

pub returns-in-4 : goal.returns-in-4
returns-in-4 c = λ vs. c.drop_vbus.ensures vs ∙ ap outcome_answer (rule_of 4 c.args.chip c.args.event vs c.in-4.is)

pub returns-in_default : goal.returns-in_default
returns-in_default c =
    λ vs. c.set_pins.ensures vs ∙ ap outcome_answer (rule_of 5 c.args.chip c.args.event vs (omega arith))
