-- The bytes stored in the buffer, put back, are the burst on the record (`written_ep0`).
use mathlib.Core.Path.{sym, ap, ◌∙◌}
use mathlib.Core.Bool.{Bool, ◌||◌}
use Rattle.bits.specs.Flag.{is_on}
use Rattle.chip.specs.Set.{set_ep0}
use Rattle.bursts.specs.Burst.{limit_of, ep0fifo}
use Rattle.bursts.proofs.Fifo.{written_ep0}
use Rattle.bursts.proofs.write_ep0.Goals as goal

pub returns : goal.returns
returns c d dav =
    let a = c.args in
    let limit = c.limit_of-limit.ensures.0 ∙ ap (λ (b : Bool). limit_of (is_on a.endpoint.armed || b)) (sym dav) in
    ap (ep0fifo.put (set_ep0 a.endpoint d)) (rw limit at c.store_all-position.ensures) ∙ written_ep0 (set_ep0 a.endpoint d) a.sent.now
