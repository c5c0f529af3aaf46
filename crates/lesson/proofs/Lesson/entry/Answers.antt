-- Entry i of a lesson's file is where its row says (`there`), and of one of the two kinds (`kind_told`).
use Rattle.std.proofs.Common.{◌≡◌, sym, ap, ◌∙◌}
use Rattle.lesson.specs.Read.{entry_at}
use Rattle.lesson.specs.Kind.{kind_number}
use Rattle.lesson.proofs.Kind.{kind_two}
use Rattle.lesson.proofs.Locate.{there, told, kind_told}
use Rattle.lesson.proofs.Lesson.entry.Goals.{then-kind_at-eq1, else-kind_at-eq1}
use Rattle.lesson.proofs.Lesson.entry.Goals as goal

pub kind_at-requires : goal.kind_at-requires
kind_at-requires c = there c.self.inside.file.now c.self.invariant.accepted c.args.i (rw (c.self.view_is) c.requires)

pub tick_at-requires : goal.tick_at-requires
tick_at-requires c = there c.self.inside.file.now c.self.invariant.accepted c.args.i (rw (c.self.view_is) c.requires)

pub body_at-requires : goal.body_at-requires
body_at-requires c = there c.self.inside.file.now c.self.invariant.accepted c.args.i (rw (c.self.view_is) c.requires)

pub returns : goal.returns
returns c none =
    let f = c.self.inside.file.now in
    let i = c.args.i in
    let known = kind_told f c.self.invariant.accepted i (rw (c.self.view_is) c.requires) in
    let kind : (entry_at f i).kind ≡ kind_number c.if-kind_at-eq1.kind =
    elim c.if-kind_at-eq1.branch [
      | then-kind_at-eq1 w ↦ sym c.kind_at.ensures ∙ w.if-kind_at-eq1.true ∙ ap kind_number (sym w.kind-is)
      | else-kind_at-eq1 w ↦ kind_two (entry_at f i).kind known (λ one. w.if-kind_at-eq1.false (c.kind_at.ensures ∙ one))
          ∙ ap kind_number (sym w.kind-is)
    ] in
    rw (← c.self.view_is)
    (told f c.self.invariant.accepted i (rw (c.self.view_is) c.requires) none
    ∙ (λ j. record { kind = kind j; tick = sym c.tick_at.ensures j; body = sym c.body_at.ensures j }))
