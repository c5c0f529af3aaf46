-- What becomes of each request (document 01, "The firmware").
use Rattle.std.specs.Prelude.{Bool, cond, ◌&&◌, ◌||◌, List, [], ◌∷◌, ℕ, ◌+◌, ◌*◌, ◌/◌, ◌%◌, eqb, leb, ltb, length, get_or}
use Rattle.descriptor.specs.Table.{strings}
use Rattle.descriptor.specs.declared.Data.TheVariants.{Status, Byte, Device, Configuration, Hid, Report, String}
use Rattle.request.specs.declared.Firmware.{Firmware}
use Rattle.request.specs.declared.Request.{Request}
use Rattle.request.specs.declared.Decision.{Decision}
use Rattle.request.specs.declared.Decision.TheVariants.{Stall, Send, Accept}
use Rattle.request.specs.declared.Endpoints.TheVariants.{Unchanged, ClearHalt, SetHalt, Configure}
use Rattle.request.specs.Record.{configured, set_configuration, set_wakeup, set_halted}
use Rattle.bits.specs.First.{first_of}
use Rattle.bits.specs.Flag.{is_on}

-- ---- the fields of a request

-- low byte first
abbrev pub word : ℕ → ℕ → ℕ
word low high = low + 256 * high

-- what the eight setup bytes spell (USB 2.0 section 9.3)
abbrev pub request_of : List ℕ → Request
request_of s =
    record {
      bmrequesttype = get_or s 0 0;
      brequest = get_or s 1 0;
      wvalue = word (get_or s 2 0) (get_or s 3 0);
      windex = word (get_or s 4 0) (get_or s 5 0);
      wlength = word (get_or s 6 0) (get_or s 7 0);
    }

-- the high byte of wValue, for GET_DESCRIPTOR the descriptor's type
abbrev pub wvalueh : Request → ℕ
wvalueh q = q.wvalue / 256

-- the low byte of wValue, for GET_DESCRIPTOR the descriptor's index
abbrev pub wvaluel : Request → ℕ
wvaluel q = q.wvalue % 256

-- ---- what a rule asks of them

abbrev pub asks : Request → ℕ → ℕ → Bool
asks q type code = eqb q.bmrequesttype type && eqb q.brequest code

-- wValue and wIndex
abbrev pub fields : Request → ℕ → ℕ → Bool
fields q value index = eqb q.wvalue value && eqb q.windex index

-- a descriptor's index and wIndex are 0
abbrev pub plain : Request → Bool
plain q = eqb (wvaluel q) 0 && eqb q.windex 0

-- wLength, which is free for reads only
abbrev pub no_data : Request → Bool
no_data q = eqb q.wlength 0

-- ---- the requests that are answered, in the order of document 01; a field that it does not name must be 0

abbrev pub rules : Request → Firmware → List (Bool × Decision)
rules q f =
    -- 80 00: `01 00`, or `03 00` with remote wakeup enabled
    (asks q 0x80 0x00 && fields q 0 0, Send (Status (cond (is_on f.wakeup) 3 1)))
    -- 81 00, configured: `00 00`
    ∷ (asks q 0x81 0x00 && fields q 0 0 && configured f, Send (Status 0))
    -- 82 00: `00 00` for wIndex 0 or 80; for 83, configured, byte 0 tells the halt
    ∷ (asks q 0x82 0x00 && (fields q 0 0x00 || fields q 0 0x80), Send (Status 0))
    ∷ (asks q 0x82 0x00 && fields q 0 0x83 && configured f, Send (Status (cond (is_on f.halted) 1 0)))
    -- 00 01 and 00 03, wValue 1: remote wakeup off, on
    ∷ (asks q 0x00 0x01 && fields q 1 0 && no_data q, Accept (set_wakeup 0 f) Unchanged)
    ∷ (asks q 0x00 0x03 && fields q 1 0 && no_data q, Accept (set_wakeup 1 f) Unchanged)
    -- 02 01 and 02 03, wIndex 83, configured: halt off (clears EP3's toggle), on
    ∷ (asks q 0x02 0x01 && fields q 0 0x83 && no_data q && configured f, Accept (set_halted 0 f) ClearHalt)
    ∷ (asks q 0x02 0x03 && fields q 0 0x83 && no_data q && configured f, Accept (set_halted 1 f) SetHalt)
    -- 00 05, any wValue: ACK only
    ∷ (asks q 0x00 0x05 && eqb q.windex 0 && no_data q, Accept f Unchanged)
    -- 80 08: the configuration
    ∷ (asks q 0x80 0x08 && fields q 0 0, Send (Byte f.configuration))
    -- 00 09, wValue 0 or 1: sets it, ends a halt, clears all three toggles
    ∷ (asks q 0x00 0x09 && eqb q.windex 0 && no_data q && leb q.wvalue 1, Accept (set_halted 0 (set_configuration (wvaluel q) f)) Configure)
    -- 80 06: types 1, 2; 3 with an index that exists and any wIndex
    ∷ (asks q 0x80 0x06 && eqb (wvalueh q) 0x01 && plain q, Send Device)
    ∷ (asks q 0x80 0x06 && eqb (wvalueh q) 0x02 && plain q, Send Configuration)
    ∷ (asks q 0x80 0x06 && eqb (wvalueh q) 0x03 && ltb (wvaluel q) (length strings), Send (String (wvaluel q)))
    -- 81 06: types 21, 22
    ∷ (asks q 0x81 0x06 && eqb (wvalueh q) 0x21 && plain q, Send Hid)
    ∷ (asks q 0x81 0x06 && eqb (wvalueh q) 0x22 && plain q, Send Report)
    -- 81 0A, configured: `00`
    ∷ (asks q 0x81 0x0A && fields q 0 0 && configured f, Send (Byte 0))
    -- 01 0B, configured: ACK only
    ∷ (asks q 0x01 0x0B && fields q 0 0 && no_data q && configured f, Accept f Unchanged)
    ∷ []

-- all else is STALL
unfoldable pub decision_of : Request → Firmware → Decision
decision_of q f = first_of (rules q f) Stall
