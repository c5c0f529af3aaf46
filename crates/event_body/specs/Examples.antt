-- Bodies of events, worked out by hand from document 02, Ask 5: what each is read as. All numbers in hex.
use Rattle.std.specs.Prelude.{Bool, true, false, List, [], ◌∷◌, ℕ}
use Rattle.model.specs.declared.Event.{Event}
use Rattle.event_body.specs.Body.{signal, input_pins, event_of, payload_of}

-- a body, its event and its payload
pub record Example : Type 0 where
  pub body : List ℕ
  pub event : Event
  pub payload : List ℕ

-- the same as the definitions have it
abbrev pub reading : Example → Example
reading x = record { body = x.body; event = event_of x.body; payload = payload_of x.body }

-- a transaction: its code, address and endpoint; damaged, DATA1, acknowledged
abbrev pub transacts : ℕ → ℕ → ℕ → Bool → Bool → Bool → Event
transacts code address endpoint damaged data1 acknowledged =
    record {
      code = code;
      pins = 0;
      address = address;
      endpoint = record { 0 = endpoint };
      damaged = damaged;
      data1 = data1;
      acknowledged = acknowledged;
    }

abbrev pub setup : ℕ → ℕ → Bool → Event
setup address endpoint damaged = transacts 0x0A address endpoint damaged false false

abbrev pub out : ℕ → ℕ → Bool → Bool → Event
out address endpoint damaged data1 = transacts 0x0B address endpoint damaged data1 false

abbrev pub inward : ℕ → ℕ → Bool → Event
inward address endpoint acknowledged = transacts 0x0C address endpoint false false acknowledged

abbrev pub examples : List Example
examples =
    -- power-on, activity, the input pins
    record { body = 0x01 ∷ []; event = signal 0x01; payload = [] }
    ∷ record { body = 0x09 ∷ []; event = signal 0x09; payload = [] }
    ∷ record { body = 0x05 ∷ 0x0A ∷ []; event = input_pins 0x0A; payload = [] }
    -- a SETUP, whole and damaged
    ∷ record {
      body = 0x0A ∷ 0x00 ∷ 0x00 ∷ 0x00 ∷ 0x80 ∷ 0x06 ∷ 0x00 ∷ 0x01 ∷ 0x00 ∷ 0x00 ∷ 0x40 ∷ 0x00 ∷ [];
      event = setup 0 0 false;
      payload = 0x80 ∷ 0x06 ∷ 0x00 ∷ 0x01 ∷ 0x00 ∷ 0x00 ∷ 0x40 ∷ 0x00 ∷ [];
    }
    ∷ record { body = 0x0A ∷ 0x07 ∷ 0x00 ∷ 0x01 ∷ []; event = setup 7 0 true; payload = [] }
    -- an OUT: a damaged DATA1; a DATA1 with no bytes; a DATA0
    ∷ record { body = 0x0B ∷ 0x05 ∷ 0x01 ∷ 0x03 ∷ 0x41 ∷ 0x42 ∷ []; event = out 5 1 true true; payload = 0x41 ∷ 0x42 ∷ [] }
    ∷ record { body = 0x0B ∷ 0x05 ∷ 0x01 ∷ 0x02 ∷ []; event = out 5 1 false true; payload = [] }
    ∷ record { body = 0x0B ∷ 0x05 ∷ 0x01 ∷ 0x00 ∷ 0x41 ∷ []; event = out 5 1 false false; payload = 0x41 ∷ [] }
    -- an IN, acknowledged and not; an address and an endpoint that refusal 7 is about
    ∷ record { body = 0x0C ∷ 0x00 ∷ 0x02 ∷ 0x01 ∷ []; event = inward 0 2 true; payload = [] }
    ∷ record { body = 0x0C ∷ 0x80 ∷ 0x10 ∷ 0x00 ∷ []; event = inward 0x80 0x10 false; payload = [] }
    ∷ []

-- bodies that no layout fits
abbrev pub broken : List (List ℕ)
broken =
    -- none, and codes that aren't one of ours
    []
    ∷ (0x00 ∷ [])
    ∷ (0x0D ∷ [])
    -- a signal and pins of another length
    ∷ (0x01 ∷ 0x00 ∷ [])
    ∷ (0x05 ∷ [])
    ∷ (0x05 ∷ 0x0A ∷ 0x00 ∷ [])
    -- an IN with another mark, and one with a payload
    ∷ (0x0C ∷ 0x00 ∷ 0x02 ∷ 0x02 ∷ [])
    ∷ (0x0C ∷ 0x00 ∷ 0x02 ∷ 0x00 ∷ 0x00 ∷ [])
    -- a SETUP with another mark, an OUT with another mark, a SETUP that is cut
    ∷ (0x0A ∷ 0x00 ∷ 0x00 ∷ 0x02 ∷ 0x80 ∷ 0x06 ∷ 0x00 ∷ 0x01 ∷ 0x00 ∷ 0x00 ∷ 0x40 ∷ 0x00 ∷ [])
    ∷ (0x0B ∷ 0x00 ∷ 0x01 ∷ 0x04 ∷ [])
    ∷ (0x0A ∷ 0x00 ∷ 0x00 ∷ [])
    ∷ []
