-- The command byte changes R9 only; the burst's reply and the status byte are the whole reply (`whole`).
use mathlib.Core.Path.{◌∙◌}
use lib.ListN.{get_or}
use Rattle.rules.specs.Spi.{max3420e_spi}
use Rattle.spi.proofs.Call.{whole, acknowledge_part}
use Rattle.spi.proofs.run.Goals as goal

pub returns : goal.returns
returns c =
    let a = c.args in
    let acked = acknowledge_part a.chip (get_or a.bytes.now 0 0) in
    rw (c.status_byte.ensures a.chip)
    (whole max3420e_spi a.chip _ a.bytes.now a.reply.now _ c.requires.2 c.requires.3
    (c.burst-after.ensures.0 ∙ rw (c.acknowledged-epstalls.ensures, acked))
    (c.burst-after.ensures.1 ∙ rw (c.acknowledged-epstalls.ensures, acked)))
