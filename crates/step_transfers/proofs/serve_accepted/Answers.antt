-- The transfers of each reply.
use mathlib.Core.Path.{sym, ap, ◌∙◌}
use mathlib.Core.List.{[], ◌∷◌}
use Rattle.chip.specs.declared.Chip.{Chip}
use Rattle.chip.specs.Sound.{sound_chip}
use Rattle.model.specs.Call.{call_to, run_to}
use Rattle.model.proofs.Runs.{run_append}
use Rattle.rules.specs.Event.{max3420e}
use Rattle.rules.proofs.Sound.{stays_sound}
use Rattle.step_transfers.specs.Step.{sends, writes_endpoints}
use Rattle.step_transfers.proofs.serve_accepted.Goals as goal

pub acknowledge-requires : goal.acknowledge-requires
acknowledge-requires c = ap sound_chip c.write_endpoints.ensures ∙ stays_sound c.args.chip c.well_formed.0 c.requires.0 _

pub returns-in-Stall : goal.returns-in-Stall
unfolding run_to
returns-in-Stall c = rw (c.in-Stall.is, c.send.ensures, c.stall_byte.ensures)

pub returns-in-Ack : goal.returns-in-Ack
unfolding run_to
returns-in-Ack c =
    let a = c.args in
    rw c.in-Ack.is
    (c.acknowledge.ensures ∙ ap (λ (x : Chip). call_to max3420e x (sends (0x91 ∷ []))) c.write_endpoints.ensures
    ∙ sym (run_append max3420e a.chip (writes_endpoints a.endpoints a.epstalls a.clrtogs) (sends (0x91 ∷ []) ∷ [])))
