-- Each code has its rule, and none is seen where the bus is not.
use Rattle.std.specs.Prelude.{Ok}
use Rattle.std.proofs.Common.{◌≡◌, ◌∙◌, ap, sym, arith}
use Rattle.chip.specs.declared.Chip.{Chip}
use Rattle.chip.specs.Mask.{busactirq}
use Rattle.model.specs.Reply.{Outcome, Reply}
use Rattle.rules.specs.Event.{raise_usbirq}
use Rattle.event_answer.specs.declared.EventReply.TheVariants.{Silence, Done}
use Rattle.event_answer.specs.Answer.{event_answer_with, outcome_answer}
use Rattle.bus.proofs.Events.{unseen, when_seen_law, seen_code, rule_of}
use Rattle.bus.proofs.bus_event.Goals as goal

pub returns-then-not-seen : goal.returns-then-not-seen
returns-then-not-seen c =
    let a = c.args in
    λ vs. c.answer_with.ensures
    ∙ seen_code a.chip a.event vs (λ (o : Outcome Chip Reply). event_answer_with a.chip (Ok Silence) ≡ outcome_answer o) c.requires
    (λ (f : Chip → Chip). unseen f a.chip a.event vs (sym c.seen.ensures ∙ c.if-not-seen.true))

pub returns-in_default : goal.returns-in_default
returns-in_default c =
    let a = c.args in
    λ vs. c.answer_with-in_default.ensures
    ∙ ap (λ (d : Chip). event_answer_with d (Ok Done)) c.raise_usbirq-in_default.ensures
    ∙ when_seen_law (raise_usbirq busactirq) a.chip a.event vs (sym c.seen.ensures ∙ c.if-not-seen.false)
    ∙ ap outcome_answer (rule_of 9 a.chip a.event vs (omega arith))
