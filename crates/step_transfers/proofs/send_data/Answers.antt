-- Bytes to R0, then `2B n`.
use mathlib.Core.Path.{refl, ap, ◌∙◌}
use mathlib.Core.List.{[], ◌∷◌}
use Rattle.chip.specs.Sound.{sound_chip}
use Rattle.model.specs.Call.{run_to}
use Rattle.rules.proofs.Sound.{stays_sound}
use Rattle.step_transfers.proofs.send_data.Goals as goal

pub send-requires : goal.send-requires
unfolding run_to
send-requires c =
    (ap sound_chip c.fill-filled.ensures ∙ stays_sound c.args.chip c.well_formed.0 c.requires.0 (_ ∷ []), refl)

pub returns : goal.returns
unfolding run_to
returns c = rw (c.send.ensures, c.fill-filled.ensures)
