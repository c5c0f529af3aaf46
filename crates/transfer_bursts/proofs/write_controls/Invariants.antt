-- The law of the byte loop, at registers that are no FIFO.
use mathlib.Core.Bool.{true}
use Rattle.model.proofs.Loop.{Turn}
use Rattle.rules.specs.Spi.{max3420e_spi}
use Rattle.transfer_bursts.specs.Control.{WritesNoFifo}
use Rattle.transfer_bursts.proofs.write_controls.Given as goal

abbrev pub invariant-loop-i : goal.invariant-loop-i
invariant-loop-i l =
    WritesNoFifo l.selected × Turn max3420e_spi true l.bytes l.fn.reply 1 l.fn.chip l.register l.reply l.chip l.selected l.i
