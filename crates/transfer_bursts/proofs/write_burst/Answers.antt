-- At a FIFO the endpoint's burst, put back, and the cleared reply are the write's two parts (`written_parts`).
use mathlib.Core.Path.{refl}
use Rattle.rules.specs.Spi.{max3420e_spi}
use Rattle.transfer_bursts.proofs.Written.{written_parts}
use Rattle.transfer_bursts.proofs.write_burst.Goals as goal

pub returns-in-0 : goal.returns-in-0
returns-in-0 c =
    rw c.in-0.is
    (written_parts max3420e_spi c.args.chip _ 0 c.args.bytes.now c.args.reply.now _ c.requires.0 c.requires.1
    (c.write_ep0-endpoint.ensures c.args.chip refl) c.clear.ensures)

pub returns-in-2 : goal.returns-in-2
returns-in-2 c =
    rw c.in-2.is
    (written_parts max3420e_spi c.args.chip _ 2 c.args.bytes.now c.args.reply.now _ c.requires.0 c.requires.1
    (c.write_ep2-endpoint.ensures c.args.chip) c.clear-in-2.ensures)

pub returns-in-3 : goal.returns-in-3
returns-in-3 c =
    rw c.in-3.is
    (written_parts max3420e_spi c.args.chip _ 3 c.args.bytes.now c.args.reply.now _ c.requires.0 c.requires.1
    (c.write_ep3-endpoint.ensures c.args.chip) c.clear-in-3.ensures)
