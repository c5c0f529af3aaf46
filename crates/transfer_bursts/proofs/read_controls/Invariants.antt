-- The law of the byte loop, at registers whose read moves nothing.
use mathlib.Core.Bool.{false}
use Rattle.model.proofs.Loop.{Turn}
use Rattle.rules.specs.Spi.{max3420e_spi}
use Rattle.transfer_bursts.specs.Control.{ReadsNoFifo}
use Rattle.transfer_bursts.proofs.read_controls.Given as goal

abbrev pub invariant-loop-i : goal.invariant-loop-i
invariant-loop-i l =
    ReadsNoFifo l.selected
    × Turn max3420e_spi false l.bytes l.fn.reply 1 l.chip l.register l.reply l.chip l.selected l.i
