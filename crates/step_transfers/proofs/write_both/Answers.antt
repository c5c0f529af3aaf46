-- Two sends in a row.
use mathlib.Core.Path.{refl, ap, ◌∙◌}
use mathlib.Core.List.{[], ◌∷◌}
use Rattle.chip.specs.Sound.{sound_chip}
use Rattle.model.specs.Call.{run_to}
use Rattle.rules.proofs.Sound.{stays_sound}
use Rattle.step_transfers.proofs.write_both.Goals as goal

pub send-requires : goal.send-requires
unfolding run_to
send-requires c =
    (ap sound_chip c.send-halted.ensures ∙ stays_sound c.args.chip c.well_formed.0 c.requires (_ ∷ []), refl)

pub returns : goal.returns
unfolding run_to
returns c = rw (c.send.ensures, c.send-halted.ensures, c.clrtogs-r10.ensures, c.epstalls-r9.ensures)
