-- Demand 3 of the code: after every list of calls of `spi::transfer` and `bus::event` from the power-on record.
use mathlib.Core.Path.{◌≡◌, refl, ap, ◌∙◌, subst}
use mathlib.Core.List.{List, [], ◌∷◌}
use Rattle.chip.specs.declared.Chip.{Chip}
use Rattle.chip.specs.Record.{power_on_chip}
use Rattle.model.specs.Call.{Call, transfer, event, Entry, answer_of, call_to, run_to, history}
use Rattle.rules.specs.Event.{max3420e}
use Rattle.rules.specs.Demand.{Demand3Of}
use Rattle.rules.proofs.Theorem.{demand3}
use Rattle.board_runs.specs.Made.{made_to, made_run_to, made_history}

-- the record that a call returns is the model's
pub made_is : (c : Chip) (k : Call) → call_to max3420e c k ≡ made_to c k
made_is c (transfer bytes room) = refl
made_is c (event e payload room) = refl

run_is : (c : Chip) (ks : List Call) → run_to max3420e c ks ≡ made_run_to c ks
unfolding run_to made_run_to
run_is c [] = refl
run_is c (k ∷ ks) = ap (λ (d : Chip). run_to max3420e d ks) (made_is c k) ∙ run_is (made_to c k) ks

history_is : (c : Chip) (ks : List Call) → history max3420e c ks ≡ made_history c ks
unfolding history made_history
history_is c [] = refl
history_is c (k ∷ ks) =
    ap (λ (es : List Entry). record { call = k; answer = answer_of max3420e c k } ∷ es)
    (ap (λ (d : Chip). history max3420e d ks) (made_is c k) ∙ history_is (made_to c k) ks)

pub made_demand3 : (ks : List Call) → Demand3Of (made_history power_on_chip ks) (made_run_to power_on_chip ks)
made_demand3 ks =
    subst (λ (es : List Entry). Demand3Of es (made_run_to power_on_chip ks)) (history_is power_on_chip ks)
    (subst (Demand3Of (history max3420e power_on_chip ks)) (run_is power_on_chip ks) (demand3 ks))
