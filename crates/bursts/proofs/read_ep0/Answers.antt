-- The burst on the packet, put back, is the burst on the record (`read_ep0`).
use mathlib.Core.Path.{◌≡◌}
use Prim.Native.Nat.{◌≤◌}
use native.Mathlib.Omega.{arith}
use lib.ListN.{length}
use Rattle.bursts.proofs.Fifo.{read_ep0}
use borrow.Author.Rules.{rules}
use Rattle.bursts.proofs.read_ep0.Goals as goal

pub returns : goal.returns
returns c d =
    let a = c.args in
    let s = c.read_all-position in
    let long : length a.endpoint.bytes ≡ 64 = search rules in
    let within : a.endpoint.count ≤ length a.endpoint.bytes = omega (arith, c.requires.0) in
    read_ep0 d a.endpoint within a.bytes.now a.reply.now s.new.reply s.result s.ensures
