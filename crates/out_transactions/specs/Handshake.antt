-- The handshake of each verdict on OUT.
use Rattle.rules.specs.declared.OutVerdict.{OutVerdict}
use Rattle.rules.specs.declared.OutVerdict.TheVariants.{Silent, Stall, Nak, Drop, Store, Status}
use Rattle.event_answer.specs.declared.EventReply.{EventReply}
use Rattle.event_answer.specs.declared.EventReply.TheVariants.{Silence, Ack, Nak as NakReply, Stall as StallReply}

abbrev pub handshake_of : OutVerdict → EventReply
handshake_of Silent = Silence
handshake_of Stall = StallReply
handshake_of Nak = NakReply
handshake_of Drop = Ack
handshake_of Store = Ack
handshake_of Status = Ack
