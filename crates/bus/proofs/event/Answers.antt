-- A call that is refused, and one that is not, has the model's answer; its numbers follow.
use Rattle.std.proofs.Common.{◌∙◌, Bool, ap, length, sym}
use Rattle.refusal.specs.Check.{check}
use Rattle.model.specs.Call.{event_grounds, event as event_call}
use Rattle.bus.proofs.Call.{numbers, refused_answer, accepted_answer}
use Rattle.bus.proofs.event.Goals as goal

pub returns-in-Err-clause-value : goal.returns-in-Err-clause-value
returns-in-Err-clause-value c =
    let a = c.args in
    let whole = refused_answer a.chip a.event a.payload.now a.reply.now c.in-Err.refusal
    (ap (λ (s : Bool). check (event_grounds s a.event (length a.payload.now) (length a.reply.now))) (sym c.is_sound.ensures)
    ∙ sym c.in-Err.ensures) in
    (c.answer_with.ensures ∙ whole.0, whole.1)

pub returns-in-Err-clause-numbers : goal.returns-in-Err-clause-numbers
returns-in-Err-clause-numbers c =
    let a = c.args in
    numbers a.chip (event_call a.event a.payload.now (length a.reply.now)) c.answer_with.result (returns-in-Err-clause-value c).0

pub returns-in-Ok-clause-value : goal.returns-in-Ok-clause-value
returns-in-Ok-clause-value c =
    let a = c.args in
    let whole = accepted_answer a.chip a.event a.payload.now a.reply.now
    (ap (λ (s : Bool). check (event_grounds s a.event (length a.payload.now) (length a.reply.now))) (sym c.is_sound.ensures)
    ∙ sym c.in-Ok.ensures) in
    (c.accept.ensures.0 ∙ whole.0, c.accept.ensures.1 ∙ whole.1)

pub returns-in-Ok-clause-numbers : goal.returns-in-Ok-clause-numbers
returns-in-Ok-clause-numbers c =
    let a = c.args in
    numbers a.chip (event_call a.event a.payload.now (length a.reply.now)) c.accept.result (returns-in-Ok-clause-value c).0
