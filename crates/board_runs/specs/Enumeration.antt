-- Whole enumerations on the board, each a list of board calls with its answers, from the power-on records of chip and firmware; worked out
-- by hand from document 01. All numbers in hex.
use Rattle.refusal.specs.declared.Refusal.{Refusal}
use Rattle.std.specs.Prelude.{true, false, List, [], ◌∷◌, ◌++◌, ℕ, length, take, replicate, get_or, Option, Some, None, Result, Ok}
use Rattle.descriptor.specs.Table.{device, configuration, report, strings}
use Rattle.model.specs.Reply.{Reply, transferred, done, silence, ack, stall, sent}
use Rattle.model.specs.Call.{Call, transfer, event, Answer, answered}
use Rattle.board_record.specs.declared.Board.{Board}
use Rattle.firmware.specs.declared.RequestReply.{RequestReply}
use Rattle.firmware.specs.declared.RequestReply.TheVariants.{Stall, Ack, Data}
use Rattle.board.specs.Board.{on_chip, steps, board_answer, step_checked, step_reply_of, step_buffer, step_count, board_to}
use Rattle.board_record.specs.Record.{power_on_board}

-- a transfer or an event with its answer; or the step, lent 64 bytes, with its reply and the bytes that it counts
pub data Play : Type 0 where
  calls : Call → Answer → Play
  serves : Result (Option RequestReply) Refusal → List ℕ → Play

abbrev pub served_by : Board → Play
served_by b =
    let r = step_reply_of b (step_checked b 64) in
    serves r (take (step_count r) (step_buffer b (step_checked b 64) (replicate 64 0)))

-- what the board answers
abbrev pub played_from : Board → List Play → List Play
played_from b [] = []
played_from b (calls k a ∷ ps) = calls k (board_answer b k) ∷ played_from (board_to b (on_chip k)) ps
played_from b (serves r vs ∷ ps) = served_by b ∷ played_from (board_to b (steps 64)) ps

abbrev pub played : List Play → List Play
played ps = played_from power_on_board ps

-- ---- calls

abbrev pub spi : List ℕ → Play
spi bytes = calls (transfer bytes 4096) (answered (transferred (replicate (length bytes) 0)))

abbrev pub signals : ℕ → Reply → Play
signals code a =
    calls (event (record { code = code; pins = 0; address = 0; endpoint = record { 0 = 0 }; damaged = false; data1 = false; acknowledged = false }) [] 0)
    (answered a)

abbrev pub setup_at : ℕ → List ℕ → Play
setup_at address vs =
    calls (event (record {
      code = 10;
      pins = 0;
      address = address;
      endpoint = record { 0 = 0 };
      damaged = false;
      data1 = false;
      acknowledged =
          false;
    }) vs 0)
    (answered ack)

abbrev pub in_at : ℕ → ℕ → Reply → Play
in_at address endpoint a =
    calls (event (record {
      code = 12;
      pins = 0;
      address = address;
      endpoint = record { 0 = endpoint };
      damaged = false;
      data1 = false;
      acknowledged =
          true;
    }) [] 64)
    (answered a)

abbrev pub status_out_at : ℕ → Reply → Play
status_out_at address a =
    calls (event (record {
      code = 11;
      pins = 0;
      address = address;
      endpoint = record { 0 = 0 };
      damaged = false;
      data1 = true;
      acknowledged =
          false;
    }) [] 0)
    (answered a)

-- ---- requests: SETUP, the board step, then the stages that the host sees

-- data to the host, one packet
abbrev pub reads : ℕ → List ℕ → List ℕ → List Play
reads address request vs =
    setup_at address request ∷ serves (Ok (Some (Data (length vs)))) vs ∷ in_at address 0 (sent true vs) ∷ status_out_at address ack ∷ []

-- no data: the status stage
abbrev pub writes : ℕ → List ℕ → List Play
writes address request = setup_at address request ∷ serves (Ok (Some Ack)) [] ∷ in_at address 0 (sent true []) ∷ []

-- a request that is not answered
abbrev pub refuses_request : ℕ → List ℕ → List Play
refuses_request address request = setup_at address request ∷ serves (Ok (Some Stall)) [] ∷ in_at address 0 stall ∷ []

-- GET_DESCRIPTOR of a type and index, with wLength
abbrev pub descriptor : ℕ → ℕ → ℕ → List ℕ
descriptor type index wlength = 0x80 ∷ 0x06 ∷ index ∷ type ∷ 0 ∷ 0 ∷ wlength ∷ 0 ∷ []

abbrev pub string : ℕ → List Play
string i = reads 0x07 (descriptor 0x03 i 0xff) (get_or strings i [])

-- ---- the enumerations

-- powered, stable, VBUS, connected; a bus reset
abbrev pub connected : List Play
connected = signals 1 done ∷ signals 2 done ∷ signals 3 done ∷ serves (Ok None) [] ∷ spi (0x7a ∷ 0x08 ∷ []) ∷ signals 6 done ∷ signals 7 done ∷
    []

-- the device descriptor, 8 bytes then 18; SET_ADDRESS 7 with its status stage; the configuration, 9 then 34; strings 0 to 3;
-- SET_CONFIGURATION; the report descriptor
abbrev pub enumerated : List Play
enumerated =
    connected
    ++ reads 0 (descriptor 0x01 0 0x08) (take 8 device) ++ reads 0 (descriptor 0x01 0 0x12) device
    ++ writes 0 (0x00 ∷ 0x05 ∷ 0x07 ∷ 0 ∷ 0 ∷ 0 ∷ 0 ∷ 0 ∷ [])
    ++ reads 0x07 (descriptor 0x02 0 0x09) (take 9 configuration) ++ reads 0x07 (descriptor 0x02 0 0x22) configuration
    ++ string 0 ++ string 1 ++ string 2 ++ string 3
    ++ writes 0x07 (0x00 ∷ 0x09 ∷ 0x01 ∷ 0 ∷ 0 ∷ 0 ∷ 0 ∷ 0 ∷ [])
    ++ reads 0x07 (0x81 ∷ 0x06 ∷ 0x00 ∷ 0x22 ∷ 0 ∷ 0 ∷ 0x2b ∷ 0 ∷ []) report

-- then a packet at endpoint 3, armed by hand
abbrev pub reported : List Play
reported = enumerated ++ (spi (0x1a ∷ 0x01 ∷ 0x02 ∷ 0x03 ∷ []) ∷ spi (0x42 ∷ 0x03 ∷ []) ∷ in_at 0x07 3
    (sent false (0x01 ∷ 0x02 ∷ 0x03 ∷ [])) ∷ [])

-- a halt of endpoint 3: its status tells it, a STALL of another request keeps it, halt off ends it and clears the toggle
abbrev pub halted : List Play
halted =
    reported
    ++ writes 0x07 (0x02 ∷ 0x03 ∷ 0 ∷ 0 ∷ 0x83 ∷ 0 ∷ 0 ∷ 0 ∷ [])
    ++ (in_at 0x07 3 stall ∷ [])
    ++ reads 0x07 (0x82 ∷ 0x00 ∷ 0 ∷ 0 ∷ 0x83 ∷ 0 ∷ 0x02 ∷ 0 ∷ []) (0x01 ∷ 0x00 ∷ [])
    ++ refuses_request 0x07 (0xc0 ∷ 0x00 ∷ 0 ∷ 0 ∷ 0 ∷ 0 ∷ 0x02 ∷ 0 ∷ [])
    ++ (in_at 0x07 3 stall ∷ [])
    ++ writes 0x07 (0x02 ∷ 0x01 ∷ 0 ∷ 0 ∷ 0x83 ∷ 0 ∷ 0 ∷ 0 ∷ [])
    ++ (spi (0x42 ∷ 0x01 ∷ []) ∷ in_at 0x07 3 (sent false (0x01 ∷ [])) ∷ [])

-- SET_CONFIGURATION clears all three toggles
abbrev pub reconfigured : List Play
reconfigured =
    reported
    ++ (spi (0x3a ∷ 0x00 ∷ []) ∷ in_at 0x07 2 (sent false []) ∷ [])
    ++ writes 0x07 (0x00 ∷ 0x09 ∷ 0x01 ∷ 0 ∷ 0 ∷ 0 ∷ 0 ∷ 0 ∷ [])
    ++ (spi (0x3a ∷ 0x00 ∷ []) ∷ in_at 0x07 2 (sent false []) ∷ spi (0x42 ∷ 0x00 ∷ []) ∷ in_at 0x07 3 (sent false []) ∷ [])

-- a bus reset in the middle forgets the address and the configuration; one that is not seen forgets nothing
abbrev pub reset_in_middle : List Play
reset_in_middle =
    enumerated
    ++ (spi (0x7a ∷ 0x00 ∷ []) ∷ signals 6 silence ∷ spi (0x7a ∷ 0x08 ∷ []) ∷ [])
    ++ reads 0x07 (0x80 ∷ 0x08 ∷ 0 ∷ 0 ∷ 0 ∷ 0 ∷ 0x01 ∷ 0 ∷ []) (0x01 ∷ [])
    ++ (setup_at 0x07 (descriptor 0x01 0 0x12) ∷ signals 6 done ∷ serves (Ok None) [] ∷ signals 7 done ∷ [])
    ++ reads 0 (0x80 ∷ 0x08 ∷ 0 ∷ 0 ∷ 0 ∷ 0 ∷ 0x01 ∷ 0 ∷ []) (0x00 ∷ [])
    ++ refuses_request 0 (0x82 ∷ 0x00 ∷ 0 ∷ 0 ∷ 0x83 ∷ 0 ∷ 0x02 ∷ 0 ∷ [])

abbrev pub enumerations : List (List Play)
enumerations = reported ∷ halted ∷ reconfigured ∷ reset_in_middle ∷ []
