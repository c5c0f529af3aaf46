-- The body of an event (document 02, Ask 5): its code, then for input pins their byte, for transactions address, endpoint, marks (1 damaged
-- or, at IN, acknowledged, plus 2 for OUT's DATA1) and payload (none at IN).
use Rattle.std.specs.Prelude.{Bool, false, cond, ◌&&◌, ◌||◌, List, [], ◌∷◌, ℕ, ◌+◌, ◌*◌, ◌%◌, eqb, leb, ltb, length, get_or, drop}
use Rattle.bits.specs.First.{first_of}
use Rattle.model.specs.declared.Event.{Event}
use Rattle.model.specs.Call.{is_setup, is_out, is_in, is_transaction}

-- ---- what a body is read as

-- an event that is only a code
abbrev pub signal : ℕ → Event
signal code =
    record { code = code; pins = 0; address = 0; endpoint = record { 0 = 0 }; damaged = false; data1 = false; acknowledged = false }

abbrev pub input_pins : ℕ → Event
input_pins levels =
    record { code = 5; pins = levels; address = 0; endpoint = record { 0 = 0 }; damaged = false; data1 = false; acknowledged = false }

-- a transaction with the address, the endpoint and the marks of its body
abbrev pub transaction : ℕ → List ℕ → Bool → Bool → Bool → Event
transaction code xs damaged data1 acknowledged =
    record {
      code = code;
      pins = 0;
      address = get_or xs 1 0;
      endpoint = record { 0 = get_or xs 2 0 };
      damaged = damaged;
      data1 = data1;
      acknowledged = acknowledged;
    }

abbrev pub body_code : List ℕ → ℕ
body_code xs = get_or xs 0 0

abbrev pub body_marks : List ℕ → ℕ
body_marks xs = get_or xs 3 0

-- the codes that are the whole body: 1 to 4, 6 to 9
abbrev pub is_signal : ℕ → Bool
is_signal code = (leb 1 code && leb code 4) || (leb 6 code && leb code 9)

-- the layouts: code and length, and which marks there are
abbrev pub is_signal_body : List ℕ → Bool
is_signal_body xs = is_signal (body_code xs) && eqb (length xs) 1

abbrev pub is_pins_body : List ℕ → Bool
is_pins_body xs = eqb (body_code xs) 5 && eqb (length xs) 2

abbrev pub is_setup_body : List ℕ → Bool
is_setup_body xs = eqb (body_code xs) 10 && leb 4 (length xs) && leb (body_marks xs) 1

abbrev pub is_out_body : List ℕ → Bool
is_out_body xs = eqb (body_code xs) 11 && leb 4 (length xs) && leb (body_marks xs) 3

abbrev pub is_in_body : List ℕ → Bool
is_in_body xs = eqb (body_code xs) 12 && eqb (length xs) 4 && leb (body_marks xs) 1

-- one of the layouts fits
abbrev pub is_event_body : List ℕ → Bool
is_event_body xs = is_signal_body xs || is_pins_body xs || is_setup_body xs || is_out_body xs || is_in_body xs

-- a body that breaks them is event 0, which refusal 5 refuses (`refused_5`)
unfoldable pub event_of : List ℕ → Event
event_of xs =
    first_of
    ((is_signal_body xs, signal (body_code xs))
    ∷ (is_pins_body xs, input_pins (get_or xs 1 0))
    ∷ (is_setup_body xs, transaction 10 xs (eqb (body_marks xs) 1) false false)
    ∷ (is_out_body xs, transaction 11 xs (eqb (body_marks xs % 2) 1) (leb 2 (body_marks xs)) false)
    ∷ (is_in_body xs, transaction 12 xs false false (eqb (body_marks xs) 1))
    ∷ [])
    (signal 0)

-- the payload is what follows the marks
abbrev pub payload_of : List ℕ → List ℕ
payload_of xs = drop 4 xs

-- ---- the body of an event

abbrev pub mark : Bool → ℕ
mark b = cond b 1 0

unfoldable pub body_of : Event → List ℕ → List ℕ
body_of e payload =
    first_of
    ((eqb e.code 5, 5 ∷ e.pins ∷ [])
    ∷ (is_setup e, 10 ∷ e.address ∷ e.endpoint.0 ∷ mark e.damaged ∷ payload)
    ∷ (is_out e, 11 ∷ e.address ∷ e.endpoint.0 ∷ (mark e.damaged + 2 * mark e.data1) ∷ payload)
    ∷ (is_in e, 12 ∷ e.address ∷ e.endpoint.0 ∷ mark e.acknowledged ∷ [])
    ∷ [])
    (e.code ∷ [])

-- ---- what a body keeps of an event

-- refusal 5: its code isn't one of ours
abbrev pub is_unknown : Event → Bool
is_unknown e = eqb e.code 0 || ltb 12 e.code

-- the event in plain form: what its code does not use is 0 or false
abbrev pub plain_of : Event → Event
plain_of e =
    record {
      code = e.code;
      pins = cond (eqb e.code 5) e.pins 0;
      address = cond (is_transaction e) e.address 0;
      endpoint = record { 0 = cond (is_transaction e) e.endpoint.0 0 };
      damaged = (is_setup e || is_out e) && e.damaged;
      data1 = is_out e && e.data1;
      acknowledged = is_in e && e.acknowledged;
    }
