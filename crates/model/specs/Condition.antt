-- A condition on the calls of a run, test by test: which byte written, and which event, breaks it in a state. A refused call does
-- nothing, so it breaks none.
use Rattle.std.specs.Prelude.{Bool, false, cond, ◌||◌, List, [], ◌∷◌, ℕ, Ok, Err}
use Rattle.refusal.specs.Check.{Checked}
use Rattle.model.specs.declared.Event.{Event}
use Rattle.model.specs.Spi.{command_register, command_writes, write_to, command_to}
use Rattle.model.specs.Call.{Call, transfer, event, Model, checked, call_to}

pub record Condition (R : Type 0) : Type 0 where
  -- byte b written to register n
  pub write : R → ℕ → ℕ → Bool
  pub event : R → Event → Bool

-- nothing breaks it
abbrev pub always : {R : Type 0} → Condition R
always = record { write = λ c n b. false; event = λ c e. false }

module _ {R : Type 0} (m : Model R) (q : Condition R) where
  unfoldable pub breaks_burst : R → ℕ → List ℕ → Bool
  breaks_burst c n [] = false
  breaks_burst c n (b ∷ bs) = q.write c n b || breaks_burst (write_to m.spi c n b) (m.spi.step n) bs

  abbrev pub breaks_transfer : R → List ℕ → Bool
  breaks_transfer c [] = false
  breaks_transfer c (k ∷ bs) = cond (command_writes k) (breaks_burst (command_to m.spi c k) (command_register k) bs) false

  abbrev pub breaks_accepted : R → Call → Bool
  breaks_accepted c (transfer bytes room) = breaks_transfer c bytes
  breaks_accepted c (event e payload room) = q.event c e

  abbrev pub breaks_checked : R → Call → Checked → Bool
  breaks_checked c k (Ok tt) = breaks_accepted c k
  breaks_checked c k (Err r) = false

  unfoldable pub breaks_call : R → Call → Bool
  breaks_call c k = breaks_checked c k (checked m c k)

  unfoldable pub breaks_run : R → List Call → Bool
  breaks_run c [] = false
  breaks_run c (k ∷ ks) = breaks_call c k || breaks_run (call_to m c k) ks
