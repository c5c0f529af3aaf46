-- The burst on endpoint 0 is the transfer's, and its reply the setup bytes.
use mathlib.Core.Path.{sym, ap, ◌∙◌}
use mathlib.Core.List.{[], ◌∷◌}
use native.Mathlib.Omega.{arith}
use lib.ListN.{drop, replicate}
use Rattle.chip.specs.Sound.{sound_chip}
use Rattle.model.specs.Call.{run_to}
use Rattle.rules.proofs.Sound.{stays_sound}
use Rattle.step_transfers.specs.Step.{clears_sudav, setup_answer}
use Rattle.step_transfers.proofs.Sends.{sends_to, sends_reply}
use Rattle.step_transfers.proofs.read_setup.Goals as goal

pub returns : goal.returns
unfolding run_to setup_answer
returns c =
    let s = c.send-cleared in
    let d = s.result in
    let sound = ap sound_chip s.ensures ∙ stays_sound c.args.chip c.well_formed.0 c.requires (clears_sudav ∷ []) in
    let e = c.read_setup-endpoint.ensures d in
    rw (← s.ensures) (
      e.0 ∙ sym (sends_to d sound (0x20 ∷ replicate 8 0) (omega arith) (omega arith)),
      ap (drop 1) e.1 ∙ sends_reply d sound 0x20 0 (replicate 8 0) (replicate 8 0) (omega arith),
    )
