-- The part that is read is the oldest packet; its burst, put back, is the burst on the record (`read_ep1`).
use mathlib.Core.Path.{◌≡◌, ap}
use Prim.Native.Nat.{ℕ, ◌+◌, ◌-◌, ◌*◌, ◌%◌}
use native.Mathlib.Omega.{arith}
use lib.ListN.{length, take, drop}
use Rattle.ring.specs.Ring.{oldest_count, oldest_packet}
use Rattle.ring.proofs.Packet.{packet_length}
use Rattle.bursts.proofs.Fifo.{read_ep1}
use borrow.Author.Rules.{rules}
use Rattle.bursts.proofs.read_ep1.Goals as goal

pub returns : goal.returns
returns c d =
    let a = c.args in
    let r = a.endpoint.ring in
    let s = c.read_all-position in
    let n = c.oldest_count in
    let start = r.oldest % 2 * 64 in
    let long : length r.bytes ≡ 128 = search rules in
    let count : (start + n.result) - start ≡ oldest_count 2 r = omega (arith, n.ensures) in
    let same : take ((start + n.result) - start) (drop start r.bytes) ≡ oldest_packet 2 r =
    ap (λ (k : ℕ). take k (drop start r.bytes)) count in
    let whole = packet_length r.bytes (r.oldest % 2) (oldest_count 2 r) (omega (arith, c.requires.0)) in
    read_ep1 d a.endpoint whole a.bytes.now a.reply.now s.new.reply s.result (rw same at s.ensures)
