-- What an action leaves and gives; what an accepted call is replied, and what of it goes into the lent buffer.
use Rattle.std.specs.Prelude.{Bool, List, [], ◌++◌, ℕ, length, drop}

-- the state after an action, and what the action gives
pub record Outcome (R A : Type 0) : Type 0 where
  pub state : R
  pub gives : A

abbrev pub outcome : {R A : Type 0} → R → A → Outcome R A
outcome c a = record { state = c; gives = a }

-- a transfer's bytes; events 1 to 9 that are seen; nothing on the bus; a handshake; a data packet, DATA1 where true, and its bytes
pub data Reply : Type 0 where
  transferred : List ℕ → Reply
  done silence ack nak stall : Reply
  sent : Bool → List ℕ → Reply

-- the bytes that a reply counts
abbrev pub reply_bytes : Reply → List ℕ
reply_bytes (transferred vs) = vs
reply_bytes done = []
reply_bytes silence = []
reply_bytes ack = []
reply_bytes nak = []
reply_bytes stall = []
reply_bytes (sent t vs) = vs

-- the lent buffer: only the bytes that the reply counts are written, at its start
abbrev pub lent : List ℕ → List ℕ → List ℕ
lent vs buffer = vs ++ drop (length vs) buffer
