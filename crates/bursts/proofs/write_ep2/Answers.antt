-- The bytes stored in the next buffer, put back, are the burst on the record (`written_ep2`).
use mathlib.Core.Path.{ap, ◌∙◌}
use Rattle.chip.specs.Set.{set_ep2}
use Rattle.bursts.specs.Burst.{ep2infifo}
use Rattle.bursts.proofs.Fifo.{written_ep2}
use Rattle.bursts.proofs.write_ep2.Goals as goal

pub returns : goal.returns
returns c d =
    let a = c.args in
    let done = rw (c.limit_of-limit.ensures.0, c.next_buffer-start.ensures.0) at c.store_all-position.ensures in
    ap (ep2infifo.put (set_ep2 a.endpoint d)) done ∙ written_ep2 (set_ep2 a.endpoint d) a.sent.now
