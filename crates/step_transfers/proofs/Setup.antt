-- The board step reads eight bytes, so the firmware never refuses them; and what it replies does not depend on the lent bytes.
use Rattle.refusal.specs.Check.{tells}
use Rattle.std.specs.Prelude.{Ok}
use mathlib.Core.Path.{◌≡◌, refl, ap, ◌∙◌}
use mathlib.Core.Bool.{Bool, true, false, cond}
use mathlib.Core.List.{List, ◌∷◌, ◌++◌}
use Prim.Native.Nat.{ℕ, ◌-◌, ◌≤◌}
use native.Mathlib.Omega.{arith}
use lib.Dec.{eqb}
use lib.ListN.{length, take, drop, replicate, length-drop}
use lib.Seq.{take_all, take_at, length-take-le}
use native.Mathlib.Nat.{min-le_right}
use borrow.Author.Tests.{eq-eqb, le-ltb}
use Rattle.descriptor.specs.Send.{count}
use Rattle.descriptor.specs.Table.{data_bytes}
use Rattle.chip.specs.declared.Chip.{Chip}
use Rattle.request.specs.declared.Firmware.{Firmware}
use Rattle.request.specs.declared.Decision.{Decision}
use Rattle.request.specs.declared.Decision.TheVariants as decision
use Rattle.request.specs.declared.Endpoints.{Endpoints}
use Rattle.request.specs.declared.Endpoints.TheVariants.{Unchanged}
use Rattle.request.specs.Record.{sound_firmware}
use Rattle.request.specs.Request.{request_of, decision_of}
use Rattle.firmware.specs.declared.RequestReply.TheVariants.{Ack, Data}
use Rattle.firmware.specs.Answer.{handled, served_of, decision_served}
use Rattle.firmware.proofs.Laws.{handled_numbers}
use Rattle.model.specs.Call.{call_to}
use Rattle.model.proofs.Runs.{transfer_buffer}
use Rattle.rules.specs.Event.{max3420e}
use Rattle.step_transfers.specs.Step.{clears_sudav, setup_answer, setup_read, served, serves}

answer_length : (c : Chip) → length (setup_answer c) ≡ 9
unfolding setup_answer
answer_length c = transfer_buffer max3420e (call_to max3420e c clears_sudav) (0x20 ∷ replicate 8 0) (replicate 9 0) refl

pub setup_length : (c : Chip) → length (setup_read c) ≡ 8
setup_length c = length-drop 1 (setup_answer c) ∙ ap (λ (n : ℕ). n - 1) (answer_length c)

-- ---- the answer to eight bytes, lent 64 or more

served_answer : (d : Decision) (w : ℕ) (f : Firmware) (xs ys : List ℕ) → (decision_served d w f xs).answer ≡ (decision_served d w f ys).answer
served_answer decision.Stall w f xs ys = refl
served_answer (decision.Send d) w f xs ys = refl
served_answer (decision.Accept next e) w f xs ys = refl

pub handled_lent : (setup : List ℕ) (f : Firmware) (xs ys : List ℕ) → length setup ≡ 8 → sound_firmware f ≡ true → 64 ≤ length xs
    → 64 ≤ length ys
    → (handled setup f xs).answer ≡ (handled setup f ys).answer
unfolding handled served_of
handled_lent setup f xs ys eight sound hx hy =
    rw (sound, le-ltb (length xs) 64 hx, le-ltb (length ys) 64 hy, eq-eqb (length setup) 8 eight)
    (served_answer (decision_of (request_of setup) f) (request_of setup).wlength f xs ys)

-- the firmware never refuses a step
pub firmware_accepts : (c : Chip) (f : Firmware) → sound_firmware f ≡ true → tells (served c f).answer.reply ≡ (Ok tt)
firmware_accepts c f sound =
    (handled_numbers (setup_read c) f (replicate 64 0)).refusal ∙ rw (sound, eq-eqb (length (setup_read c)) 8 (setup_length c))

-- ---- what the code lends and gets

-- the slice past reply byte 0
pub part_is : (c : Chip) (nine : List ℕ) → drop 1 nine ≡ setup_read c → take (9 - 1) (drop 1 nine) ≡ setup_read c
part_is c nine e = ap (take 8) e ∙ take_all 8 (setup_read c) (omega (arith, setup_length c))

-- the transfers that serve a reply read the bytes that it counts, which do not depend on the rest of the lent buffer
counted_same : (t : Bool) (n r9 r10 : ℕ) (e : Endpoints) (vs xs ys : List ℕ) → length vs ≡ n
    → serves (Ok (cond t Ack (Data n))) e (vs ++ xs) r9 r10 ≡ serves (Ok (cond t Ack (Data n))) e (vs ++ ys) r9 r10
counted_same true n r9 r10 e vs xs ys long = refl
counted_same false n r9 r10 e vs xs ys long = rw (take_at vs xs n long, take_at vs ys n long)

decision_same : (d : Decision) (w r9 r10 : ℕ) (f : Firmware) (xs ys : List ℕ)
    → serves (decision_served d w f xs).answer.reply (decision_served d w f xs).answer.endpoints (decision_served d w f xs).buffer r9 r10
    ≡ serves (decision_served d w f ys).answer.reply (decision_served d w f ys).answer.endpoints (decision_served d w f ys).buffer r9 r10
decision_same decision.Stall w r9 r10 f xs ys = refl
decision_same (decision.Send d) w r9 r10 f xs ys =
    let n : ℕ = count (data_bytes d) w in
    counted_same (eqb n 0) n r9 r10 Unchanged (take n (data_bytes d)) (drop n xs) (drop n ys)
    (length-take-le n (data_bytes d) (min-le_right w (length (data_bytes d))))
decision_same (decision.Accept next e) w r9 r10 f xs ys = refl

pub serves_lent : (setup : List ℕ) (f : Firmware) (xs ys : List ℕ) (r9 r10 : ℕ) → length setup ≡ 8 → sound_firmware f ≡ true
    → 64 ≤ length xs → 64 ≤ length ys
    → serves (handled setup f xs).answer.reply (handled setup f xs).answer.endpoints (handled setup f xs).buffer r9 r10
    ≡ serves (handled setup f ys).answer.reply (handled setup f ys).answer.endpoints (handled setup f ys).buffer r9 r10
unfolding handled served_of
serves_lent setup f xs ys r9 r10 eight sound hx hy =
    rw (sound, le-ltb (length xs) 64 hx, le-ltb (length ys) 64 hy, eq-eqb (length setup) 8 eight)
    (decision_same (decision_of (request_of setup) f) (request_of setup).wlength r9 r10 f xs ys)
