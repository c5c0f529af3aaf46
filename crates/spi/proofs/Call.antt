-- The call's answer and next record are `answer_of` and `call_to` of the MAX3420E and the call: from what the two ways of the code
-- make, refused and accepted.
use Rattle.std.specs.Prelude.{Ok, Err}
use mathlib.Core.Path.{◌≡◌, refl, sym, ap, ◌∙◌}
use mathlib.Core.Bool.{cond}
use mathlib.Core.List.{List, [], ◌∷◌, ◌++◌}
use Prim.Native.Nat.{ℕ, suc, ◌≤◌, ◌<◌}
use native.Mathlib.Omega.{arith}
use lib.ListN.{length, get_or, set, take, drop}
use borrow.Author.Tests.{eqb-false, ltb-false, not-false}
use Rattle.bits.specs.Bit.{raised}
use Rattle.ring.specs.Ring.{oldest_count}
use Rattle.ring.proofs.Laws.{oldest_small}
use Rattle.refusal.specs.declared.Refusal.{Refusal}
use Rattle.refusal.specs.Check.{check, unless_refused, tells}
use Rattle.refusal.proofs.Check.{accepted_none}
use Rattle.chip.specs.declared.Chip.{Chip}
use Rattle.chip.specs.declared.Pin.{Pin}
use Rattle.chip.specs.Mask.{ackstat}
use Rattle.chip.specs.Set.{set_epstalls}
use Rattle.chip.specs.Sound.{sound_chip}
use Rattle.chip.specs.Pin.{pin_of}
use Rattle.chip.proofs.Sound.{sound_clauses}
use Rattle.model.specs.Reply.{lent}
use Rattle.model.specs.Spi.{Spi, command_register, command_writes, command_acknowledges, command_to, burst_to, burst_of, transfer_to, transfer_of}
use Rattle.model.specs.Call.{transfer, transfer_grounds, checked, call_to, answer_of, buffer_after}
use Rattle.model.proofs.Loop.{burst_length}
use Rattle.rules.specs.Spi.{max3420e_spi}
use Rattle.rules.specs.Event.{max3420e}
use Rattle.bits.proofs.Cases.{cond_map}
use Rattle.spi.specs.Transfer.{TransferAnswer}
use Rattle.spi.specs.Transfer.{transfer_answer, transfer_count}

-- ---- an accepted transfer

-- the burst's reply, then the command byte's
pub whole : {R : Type 0} (f : Spi R) (c after : R) (xs ys out : List ℕ) → 0 < length xs → length xs ≤ length ys
    → after ≡ burst_to f (command_to f c (get_or xs 0 0)) (command_writes (get_or xs 0 0)) (command_register (get_or xs 0 0)) (drop 1 xs)
    → out ≡ take 1 ys ++ burst_of f (command_to f c (get_or xs 0 0)) (command_writes (get_or xs 0 0)) (command_register (get_or xs 0 0))
    (drop 1 xs) ++ drop (length xs) ys
    → (after ≡ transfer_to f c xs) × (set out 0 (f.status c) ≡ lent (transfer_of f c xs) ys)
whole f c after [] ys out some room state bytes = absurd (omega arith)
whole f c after (m ∷ bs) [] out some room state bytes = absurd (omega arith)
whole f c after (m ∷ bs) (y ∷ ys) out some room state bytes =
    let w = command_writes m in
    let vs = burst_of f (command_to f c m) w (command_register m) bs in
    let long = sym (burst_length f w bs (command_to f c m) (command_register m)) in
    (state, ap (λ (zs : List ℕ). set zs 0 (f.status c)) bytes ∙ ap (λ (n : ℕ). f.status c ∷ vs ++ drop n ys) long)

-- bit 0 of the command byte changes R9 only
pub acknowledge_part : (c : Chip) (m : ℕ)
    → set_epstalls (cond (command_acknowledges m) (raised ackstat c.registers.epstalls) c.registers.epstalls) c ≡ command_to
    max3420e_spi c m
acknowledge_part c m =
    cond_map (λ (x : ℕ). set_epstalls x c) (command_acknowledges m) (raised ackstat c.registers.epstalls) c.registers.epstalls

transfer_length : {R : Type 0} (f : Spi R) (c : R) (xs : List ℕ) → length (transfer_of f c xs) ≡ length xs
transfer_length f c [] = refl
transfer_length f c (m ∷ bs) = ap suc (burst_length f (command_writes m) bs (command_to f c m) (command_register m))

pub record Fitting (c : Chip) (n room : ℕ) : Type 0 where
  pub ep0 : c.ep0.count ≤ 64
  pub ep1 : oldest_count 2 c.ep1.ring ≤ 64
  pub some : 0 < n
  pub few : n ≤ 4096
  pub fits : n ≤ room

-- what an accepted transfer is known to be
pub fitting : (c : Chip) (n room : ℕ) → check (transfer_grounds (sound_chip c) n room) ≡ (Ok tt) → Fitting c n room
fitting c n room e =
    let none = accepted_none (transfer_grounds (sound_chip c) n room) e in
    let sound = sound_clauses c (not-false (sound_chip c) (none 0)) in
    let command : n ≡ 0 → ⊥ = eqb-false n 0 (none 1) in
    record {
      ep0 = sound.ep0.count;
      ep1 = oldest_small 2 c.ep1.ring sound.ep1.ring;
      some = omega arith;
      few = ltb-false 4096 n (none 2);
      fits = ltb-false room n (none 3);
    }

-- ---- the call

-- what the contract of `transfer` says
abbrev pub Promised : Chip → List ℕ → List ℕ → TransferAnswer → List ℕ → Type 0
Promised c bytes buffer r out =
    (r ≡ transfer_answer c (transfer bytes (length buffer)))
    × (out ≡ buffer_after (answer_of max3420e c (transfer bytes (length buffer))) buffer)
    × (tells r.reply ≡ checked max3420e c (transfer bytes (length buffer)))
    × (transfer_count r.reply ≡ unless_refused (checked max3420e c (transfer bytes (length buffer))) (length bytes))

pub refused_call : (c : Chip) (bytes buffer : List ℕ) (t : Refusal) (p : Pin) → checked max3420e c (transfer bytes (length buffer)) ≡
    Err t
    → p ≡ pin_of c.registers → Promised c bytes buffer (record { state = c; reply = Err t; pin = p }) buffer
unfolding call_to answer_of
refused_call c bytes buffer t p e pin = rw (e, pin) (refl, refl, refl, refl)

pub accepted_call : (c after : Chip) (bytes buffer out : List ℕ) (p : Pin) → checked max3420e c (transfer bytes (length buffer)) ≡ (Ok tt)
    → (after ≡ transfer_to max3420e_spi c bytes) × (out ≡ lent (transfer_of max3420e_spi c bytes) buffer) → p ≡ pin_of after.registers
    → Promised c bytes buffer (record { state = after; reply = Ok (length bytes); pin = p }) out
unfolding call_to answer_of
accepted_call c after bytes buffer out p e done pin =
    rw (e, pin, done.0, done.1) (ap (λ (n : ℕ). answer n) (sym (transfer_length max3420e_spi c bytes)), refl, refl, refl)
  where
    answer : ℕ → TransferAnswer
    answer n =
        let d = transfer_to max3420e_spi c bytes in
        record { state = d; reply = Ok n; pin = pin_of d.registers }
