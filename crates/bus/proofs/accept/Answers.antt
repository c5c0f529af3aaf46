-- Each code has its rule, and the lent buffer stays where the code is not 12.
use Rattle.std.proofs.Common.{◌∙◌, ap}
use Rattle.chip.specs.declared.Chip.{Chip}
use Rattle.model.specs.Reply.{Outcome, Reply}
use Rattle.event_answer.specs.Answer.{outcome_answer, outcome_buffer}
use Rattle.bus.proofs.Replies.{quiet_buffer}
use Rattle.bus.proofs.Events.{rule_of}
use Rattle.bus.proofs.accept.Goals as goal

pub returns-then-code-eq12 : goal.returns-then-code-eq12
returns-then-code-eq12 c =
    let a = c.args in
    let r = rule_of 12 a.chip a.event a.payload.now c.if-code-eq12.true in (
      (c.take_in.ensures a.payload.now).0 ∙ ap outcome_answer r,
      (c.take_in.ensures a.payload.now).1 ∙ ap (λ (o : Outcome Chip Reply). outcome_buffer o a.reply.now) r,
    )

pub returns-then-code-eq11 : goal.returns-then-code-eq11
returns-then-code-eq11 c =
    let a = c.args in (
      c.take_out.ensures ∙ ap outcome_answer (rule_of 11 a.chip a.event a.payload.now c.if-code-eq11.true),
      quiet_buffer a.chip a.event a.payload.now a.reply.now c.if-code-eq12.false,
    )

pub returns-then-code-eq10 : goal.returns-then-code-eq10
returns-then-code-eq10 c =
    let a = c.args in (
      c.take_setup.ensures ∙ ap outcome_answer (rule_of 10 a.chip a.event a.payload.now c.if-code-eq10.true),
      quiet_buffer a.chip a.event a.payload.now a.reply.now c.if-code-eq12.false,
    )

pub returns-then-code-lt6 : goal.returns-then-code-lt6
returns-then-code-lt6 c =
    let a = c.args in
    (c.power_event.ensures a.payload.now, quiet_buffer a.chip a.event a.payload.now a.reply.now c.if-code-eq12.false)

pub returns : goal.returns
returns c =
    let a = c.args in
    (c.bus_event.ensures a.payload.now, quiet_buffer a.chip a.event a.payload.now a.reply.now c.if-code-eq12.false)
