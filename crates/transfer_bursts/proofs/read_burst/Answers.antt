-- A FIFO's burst is that of its endpoint, put back.
use Rattle.transfer_bursts.proofs.read_burst.Goals as goal

pub returns-in-0 : goal.returns-in-0
returns-in-0 c = rw c.in-0.is (c.read_ep0-endpoint.ensures c.args.chip)

pub returns-in-1 : goal.returns-in-1
returns-in-1 c = rw c.in-1.is (c.read_ep1-endpoint.ensures c.args.chip)

pub returns-in-4 : goal.returns-in-4
returns-in-4 c = rw c.in-4.is (c.read_setup-endpoint.ensures c.args.chip)
