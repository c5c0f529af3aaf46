-- The verdicts on OUT: only a payload that is stored changes the record, and where one is stored at endpoint 1 there is room.
use Rattle.std.specs.Prelude.{Ok}
use mathlib.Core.Path.{◌≡◌, refl, ap}
use mathlib.Core.Logic.{◌⊎◌, ⊎_elim}
use mathlib.Core.Bool.{Bool, true, false, not, beq}
use mathlib.Core.List.{[], ◌∷◌}
use Prim.Native.Nat.{ℕ, ◌<◌}
use native.Mathlib.Omega.{arith}
use borrow.Author.Tests.{leb-false}
use Rattle.bits.specs.Bit.{has}
use Rattle.bits.specs.Flag.{is_on}
use Rattle.bits.proofs.First.{first_none}
use Rattle.ring.specs.Ring.{full}
use Rattle.chip.specs.declared.Chip.{Chip}
use Rattle.chip.specs.Mask.{ep1disab, stlep1out}
use Rattle.rules.specs.declared.OutVerdict.{OutVerdict}
use Rattle.rules.specs.declared.OutVerdict.TheVariants.{Silent, Stall, Nak, Drop, Store, Status}
use Rattle.rules.specs.Out.{out_outcome, out1_verdict}
use Rattle.event_answer.specs.Answer.{event_answer_with, outcome_answer}
use Rattle.out_transactions.specs.Handshake.{handshake_of}

pub handshake_answer : (c taken : Chip) (v : OutVerdict) → (v ≡ Store → ⊥)
    → outcome_answer (out_outcome c taken v) ≡ event_answer_with c (Ok (handshake_of v))
handshake_answer c taken Silent n = refl
handshake_answer c taken Stall n = refl
handshake_answer c taken Nak n = refl
handshake_answer c taken Drop n = refl
handshake_answer c taken Store n = absurd (n refl)
handshake_answer c taken Status n = refl

-- the place of `Store` among the verdicts is that of no other
abbrev Is : ℕ → ℕ → Type 0
Is m n = m ≡ n

pub not_store : Is 4 0 ⊎ (Is 4 1 ⊎ (Is 4 2 ⊎ (Is 4 3 ⊎ Is 4 5))) → ⊥
not_store =
    ⊎_elim (λ (e : Is 4 0). omega arith)
    (⊎_elim (λ (e : Is 4 1). omega arith)
    (⊎_elim (λ (e : Is 4 2). omega arith) (⊎_elim (λ (e : Is 4 3). omega arith) (λ (e : Is 4 5). omega arith))))

abbrev is_store : OutVerdict → Bool
is_store Silent = false
is_store Stall = false
is_store Nak = false
is_store Drop = false
is_store Store = true
is_store Status = false

pub store_room : (c : Chip) (data1 : Bool) → out1_verdict c data1 ≡ Store → c.ep1.ring.waiting < 2
store_room c data1 e =
    leb-false 2 c.ep1.ring.waiting
    (first_none is_store
    ((has c.registers.clrtogs ep1disab, Silent) ∷ (has c.registers.epstalls stlep1out, Stall) ∷ (full 2 c.ep1.ring, Nak)
    ∷ (not (beq data1 (is_on c.ep1.toggle)), Drop) ∷ []) Store refl (ap is_store e) 2)
