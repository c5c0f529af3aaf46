-- The law of the byte loop; each way through the `match` is the rule of its register.
use mathlib.Core.Path.{◌≡◌, ◌∙◌}
use mathlib.Core.List.{[], ◌∷◌}
use native.Mathlib.Omega.{arith}
use lib.ListN.{get_or}
use borrow.Author.Rules.{rules}
use Rattle.model.specs.Spi.{write_to}
use Rattle.model.proofs.Loop.{turn, finish}
use Rattle.registers.proofs.Rest.{NoneOf}
use Rattle.rules.specs.Spi.{max3420e_spi}
use Rattle.transfer_bursts.proofs.Control.{written_step, plain}
use Rattle.transfer_bursts.proofs.write_controls.Goals as goal
use Rattle.transfer_bursts.proofs.write_controls.Goals.{in-5, in-7, in-8, in-10, in-11, in-15+then-before-after, in-15+else-before-after, in_default}

pub loop-i-preserved : goal.loop-i-preserved
loop-i-preserved c =
    let l = c.loop-i in
    let d = l.chip in
    let b = get_or c.args.bytes.now l.i 0 in
    let wrote : c.match-selected.chip ≡ write_to max3420e_spi d l.selected b = elim c.match-selected.branch [
      | in-5 w ↦ w.chip-is ∙ rw w.in-5.is w.write_ep0bc-chip.ensures
      | in-7 w ↦ w.chip-is ∙ rw w.in-7.is w.write_ep2inbc-chip.ensures
      | in-8 w ↦ w.chip-is ∙ rw w.in-8.is w.write_ep3inbc-chip.ensures
      | in-10 w ↦ w.chip-is ∙ rw w.in-10.is w.write_clrtogs-chip.ensures
      | in-11 w ↦ w.chip-is ∙ rw w.in-11.is w.write_epirq-chip.ensures
      | in-15+then-before-after w ↦ w.chip-is ∙ rw (w.in-15.is, w.if-before-after.true) w.chip_after-chip.ensures
      | in-15+else-before-after w ↦ w.chip-is ∙ rw (w.in-15.is, w.if-before-after.false)
      | in_default w ↦
          let none : NoneOf (15 ∷ 11 ∷ 10 ∷ 8 ∷ 7 ∷ 5 ∷ []) l.selected = search rules in
          w.chip-is ∙ w.write_plain-written.ensures d ∙ plain d b l.selected l.invariant.0 none
    ] in (
      rw c.step_register-selected.ensures (written_step l.selected l.invariant.0),
      rw (c.step_register-selected.ensures, wrote) (turn max3420e_spi _ _ _ _ _ _ _ _ _ _ l.invariant.1 (omega arith) (omega arith)),
    )

pub returns : goal.returns
returns c = finish max3420e_spi _ _ _ _ _ _ _ _ _ _ c.loop-i.invariant.1 (omega arith)
