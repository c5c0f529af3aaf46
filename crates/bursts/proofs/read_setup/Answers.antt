-- The burst on the setup bytes, put back, is the burst on the record (`read_sudfifo_law`).
use mathlib.Core.Path.{◌≡◌}
use lib.ListN.{length}
use Rattle.bursts.proofs.Fifo.{read_sudfifo_law}
use borrow.Author.Rules.{rules}
use Rattle.bursts.proofs.read_setup.Goals as goal

pub returns : goal.returns
returns c d =
    let a = c.args in
    let s = c.read_all-position in
    let long : length a.endpoint.setup ≡ 8 = search rules in
    read_sudfifo_law d a.endpoint long a.bytes.now a.reply.now s.new.reply s.result s.ensures
