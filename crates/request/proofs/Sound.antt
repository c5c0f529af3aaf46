-- A request leaves a sound record sound: endpoint 3 is halted only where the rule asks for configuration 1, and the
-- configuration and the flags that are set are 0 or 1.
use mathlib.Core.Path.{◌≡◌, refl}
use mathlib.Core.Bool.{Bool, true, not, ◌&&◌, ◌||◌}
use mathlib.Core.List.{[], ◌∷◌}
use Prim.Native.Nat.{ℕ, ◌≤◌}
use native.Mathlib.Omega.{arith}
use borrow.Author.Tests.{leb-true, le-leb}
use lib.Dec.{eqb, leb}
use Rattle.request.specs.Record.{sound_firmware, configured, set_configuration, set_wakeup, set_halted}
use Rattle.request.specs.Request.{rules, decision_of, asks, fields, no_data, wvaluel}
use Rattle.request.specs.declared.Firmware.{Firmware}
use Rattle.request.specs.declared.Request.{Request}
use Rattle.request.specs.declared.Decision.{Decision}
use Rattle.request.specs.declared.Decision.TheVariants.{Stall, Send, Accept}
use Rattle.bits.specs.Flag.{is_on, is_flag}
use Rattle.bits.proofs.Cases.{and_true, clause_at}
use Rattle.bits.proofs.First.{none, ◌⨾◌, first_each}

-- the record after a decision
abbrev pub next_of : Firmware → Decision → Firmware
next_of f Stall = f
next_of f (Send d) = f
next_of f (Accept next e) = next

-- the clauses of a sound record
record Clauses (f : Firmware) : Type 0 where
  configuration : leb f.configuration 1 ≡ true
  wakeup : is_flag f.wakeup ≡ true
  halted : is_flag f.halted ≡ true
  halt : (not (is_on f.halted) || configured f) ≡ true

clauses_of : (f : Firmware) → sound_firmware f ≡ true → Clauses f
clauses_of f t =
    let clause = clause_at
    (leb f.configuration 1 ∷ is_flag f.wakeup ∷ is_flag f.halted ∷ (not (is_on f.halted) || configured f) ∷ []) t in
    record { configuration = clause 0; wakeup = clause 1; halted = clause 2; halt = clause 3 }

module _ (q : Request) (f : Firmware) (sound : sound_firmware f ≡ true) where
  s : Clauses f
  s = clauses_of f sound

  stays : {b : Bool} → b ≡ true → sound_firmware f ≡ true
  stays t = sound

  wakeup_set : {b : Bool} (v : ℕ) → is_flag v ≡ true → b ≡ true → sound_firmware (set_wakeup v f) ≡ true
  wakeup_set v flag t = rw (s.configuration, flag, s.halted, s.halt)

  halt_off : {b : Bool} → b ≡ true → sound_firmware (set_halted 0 f) ≡ true
  halt_off t = rw (s.configuration, s.wakeup)

  halt_on : (asks q 0x02 0x03 && fields q 0 0x83 && no_data q && configured f) ≡ true → sound_firmware (set_halted 1 f) ≡ true
  halt_on t = rw (s.configuration, s.wakeup, (and_true (asks q 0x02 0x03 && fields q 0 0x83 && no_data q) (configured f) t).1)

  configure : (asks q 0x00 0x09 && eqb q.windex 0 && no_data q && leb q.wvalue 1) ≡ true
      → sound_firmware (set_halted 0 (set_configuration (wvaluel q) f)) ≡ true
  configure t =
      let small : q.wvalue ≤ 1 = leb-true _ 1
      (and_true (asks q 0x00 0x09 && eqb q.windex 0 && no_data q) (leb q.wvalue 1) t).1 in
      let low : wvaluel q ≤ 1 = omega arith in
      rw (le-leb _ 1 low, s.wakeup)

  pub decision_sound : sound_firmware (next_of f (decision_of q f)) ≡ true
  unfolding decision_of
  decision_sound =
      first_each (λ (d : Decision). sound_firmware (next_of f d) ≡ true) (rules q f) Stall
      (
      -- 80 00, 81 00, 82 00
      stays ⨾ stays ⨾ stays ⨾ stays
      -- 00 01, 00 03, 02 01, 02 03
      ⨾ wakeup_set 0 refl ⨾ wakeup_set 1 refl ⨾ halt_off ⨾ halt_on
      -- 00 05, 80 08, 00 09
      ⨾ stays ⨾ stays ⨾ configure
      -- 80 06, 81 06
      ⨾ stays ⨾ stays ⨾ stays ⨾ stays ⨾ stays
      -- 81 0A, 01 0B
      ⨾ stays ⨾ stays ⨾ none)
      sound
