-- The law of the byte loop, on the read position.
use mathlib.Core.Path.{◌≡◌}
use mathlib.Core.Bool.{false}
use lib.ListN.{length}
use Rattle.model.proofs.Loop.{Turn}
use Rattle.bursts.specs.Burst.{packet_spi}
use Rattle.bursts.proofs.read_all.Given as goal

abbrev pub invariant-loop-i : goal.invariant-loop-i
invariant-loop-i l =
    (l.end ≡ length l.packet)
    × Turn (packet_spi l.packet) false l.bytes l.fn.reply 1 l.readpos 0 l.reply l.position 0 l.i
