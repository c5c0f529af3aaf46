-- Where halts and toggles stay, no transfer is sent.
use Rattle.model.specs.Call.{run_to}
use Rattle.step_transfers.proofs.write_endpoints.Goals as goal

pub returns-in-Unchanged : goal.returns-in-Unchanged
unfolding run_to
returns-in-Unchanged c = rw c.in-Unchanged.is
