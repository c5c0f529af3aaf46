-- The bytes stored in the buffer, put back, are the burst on the record (`written_ep3`).
use mathlib.Core.Path.{ap, ◌∙◌}
use Rattle.chip.specs.Set.{set_ep3}
use Rattle.bursts.specs.Burst.{ep3infifo}
use Rattle.bursts.proofs.Fifo.{written_ep3}
use Rattle.bursts.proofs.write_ep3.Goals as goal

pub returns : goal.returns
returns c d =
    let a = c.args in
    ap (ep3infifo.put (set_ep3 a.endpoint d)) (rw c.limit_of-limit.ensures.0 at c.store_all-position.ensures)
    ∙ written_ep3 (set_ep3 a.endpoint d) a.sent.now
