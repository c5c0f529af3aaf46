-- The law of the byte loop, on the read position.
use mathlib.Core.Path.{refl}
use native.Mathlib.Omega.{arith}
use Rattle.model.proofs.Loop.{start, turn, finish}
use Rattle.bursts.specs.Burst.{packet_spi}
use Rattle.bursts.proofs.read_all.Goals as goal

pub loop-i-init : goal.loop-i-init
loop-i-init c = (refl, start (packet_spi c.args.packet.now) _ _ _ _ _ _ (omega arith))

pub loop-i-preserved : goal.loop-i-preserved
loop-i-preserved c =
    let f = packet_spi c.args.packet.now in (
      c.loop-i.invariant.0,
      rw (c.move_on-position.ensures, c.byte_at.ensures) (turn f _ _ _ _ _ _ _ _ _ _ c.loop-i.invariant.1 (omega arith) (omega arith)),
    )

pub returns : goal.returns
returns c =
    let f = packet_spi c.args.packet.now in
    finish f _ _ _ _ _ _ _ _ _ _ c.loop-i.invariant.1 (omega arith)
