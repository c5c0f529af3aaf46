-- At the limit nothing is stored; else a byte alone, or all by a copy.
use mathlib.Core.Path.{sym}
use Rattle.bursts.specs.Burst.{filling}
use Rattle.bursts.proofs.Copied.{stores_none, one_stored}
use Rattle.bursts.proofs.store_all.Goals as goal

pub returns-then-limit-position : goal.returns-then-limit-position
returns-then-limit-position c =
    let a = c.args in
    sym (stores_none a.start a.limit a.sent.now (filling a.buffers.now a.position) c.if-limit-position.true)

pub returns-then-sent-eq1 : goal.returns-then-sent-eq1
returns-then-sent-eq1 c =
    let a = c.args in
    one_stored a.start a.limit a.sent.now (filling a.buffers.now a.position) c.if-limit-position.false c.if-sent-eq1.true
