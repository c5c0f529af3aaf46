-- The law of the byte loop, at registers whose read moves nothing (`kept`).
use native.Mathlib.Omega.{arith}
use Rattle.model.proofs.Loop.{turn, finish}
use Rattle.rules.specs.Spi.{max3420e_spi}
use Rattle.transfer_bursts.proofs.Control.{read_step, kept}
use Rattle.transfer_bursts.proofs.read_controls.Goals as goal

pub loop-i-preserved : goal.loop-i-preserved
loop-i-preserved c =
    let l = c.loop-i in
    let t = turn max3420e_spi _ _ _ _ _ _ _ _ _ _ l.invariant.1 (omega arith) (omega arith) in (
      rw c.step_register-selected.ensures (read_step l.selected l.invariant.0),
      rw (c.step_register-selected.ensures, c.read_register.ensures) (rw (← kept c.args.chip l.selected l.invariant.0) at t),
    )

pub returns : goal.returns
returns c = finish max3420e_spi _ _ _ _ _ _ _ _ _ _ c.loop-i.invariant.1 (omega arith)
