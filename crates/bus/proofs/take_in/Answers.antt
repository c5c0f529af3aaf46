-- A sound record counts no more than a packet's bytes.
use Rattle.ring.proofs.Laws.{oldest_small}
use Rattle.chip.proofs.Sound.{sound_clauses}
use Rattle.bus.proofs.take_in.Goals as goal

pub answer-requires : goal.answer-requires
answer-requires c =
    let d = c.args.chip in
    let sound = sound_clauses d c.requires.0 in
    ((sound.ep0.count, oldest_small 2 d.ep2.ring sound.ep2.ring, sound.ep3.count), c.requires.1)
