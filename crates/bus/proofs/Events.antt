-- An event goes by the rule of its code; a choice goes by its test.
use Rattle.std.specs.Prelude.{Ok}
use mathlib.Core.Path.{◌≡◌, ap, subst}
use mathlib.Core.Bool.{Bool, true, false, cond}
use mathlib.Core.List.{List}
use Prim.Native.Nat.{ℕ, ◌≤◌, ◌<◌}
use native.Mathlib.Decide.{ℕ_discrete}
use native.Mathlib.Omega.{arith}
use lib.ListN.{get_or}
use Rattle.chip.specs.declared.Chip.{Chip}
use Rattle.model.specs.declared.Event.{Event}
use Rattle.chip.specs.Mask.{uresdnirq, suspirq, busactirq}
use Rattle.reset.specs.declared.Reset.TheVariants.{BusReset}
use Rattle.reset.specs.Reset.{chip_after}
use Rattle.model.specs.Reply.{Outcome, outcome, Reply, done, silence}
use Rattle.rules.specs.Seen.{connection_of, seen}
use Rattle.rules.specs.Event.{event_rules, no_event, when_seen, raise_usbirq}
use Rattle.event_answer.specs.declared.EventReply.TheVariants.{Done, Silence}
use Rattle.event_answer.specs.Answer.{event_answer_with, outcome_answer}
use Rattle.bus.specs.EventCall.{event_outcome}

pub rule_of : (n : ℕ) (c : Chip) (e : Event) (vs : List ℕ) → e.code ≡ n → get_or event_rules n no_event c e vs ≡ event_outcome c e vs
rule_of n c e vs code = rw code

pub choice_true : {A : Type 0} (t : Bool) (x y : A) → t ≡ true → x ≡ cond t x y
choice_true t x y e = rw e

pub choice_false : {A : Type 0} (t : Bool) (x y : A) → t ≡ false → y ≡ cond t x y
choice_false t x y e = rw e

-- ---- the code that is left

pub five : (n : ℕ) → (1 ≤ n) × (n < 6) → (n ≡ 1 → ⊥) → (n ≡ 2 → ⊥) → (n ≡ 3 → ⊥) → (n ≡ 4 → ⊥) → n ≡ 5
five n within a b c d = omega arith

pub nine : (n : ℕ) → (6 ≤ n) × (n < 10) → (n ≡ 6 → ⊥) → (n ≡ 7 → ⊥) → (n ≡ 8 → ⊥) → n ≡ 9
nine n within a b c = omega arith

pub below_ten : (n : ℕ) → n ≤ 12 → (n ≡ 12 → ⊥) → (n ≡ 11 → ⊥) → (n ≡ 10 → ⊥) → n < 10
below_ten n most a b c = omega arith

-- ---- events that have to be seen

pub unseen : (f : Chip → Chip) (c : Chip) (e : Event) (vs : List ℕ) → seen (connection_of c) ≡ false
    → event_answer_with c (Ok Silence) ≡ outcome_answer (when_seen f c e vs)
unseen f c e vs t = ap outcome_answer (choice_false (seen (connection_of c)) (outcome (f c) done) (outcome c silence) t)

pub when_seen_law : (f : Chip → Chip) (c : Chip) (e : Event) (vs : List ℕ) → seen (connection_of c) ≡ true
    → event_answer_with (f c) (Ok Done) ≡ outcome_answer (when_seen f c e vs)
when_seen_law f c e vs t = ap outcome_answer (choice_true (seen (connection_of c)) (outcome (f c) done) (outcome c silence) t)

-- a code of 6 to 9 has such a rule
pub seen_code : (c : Chip) (e : Event) (vs : List ℕ) (P : Outcome Chip Reply → Type 0) → (6 ≤ e.code) × (e.code < 10)
    → ((f : Chip → Chip) → P (when_seen f c e vs)) → P (event_outcome c e vs)
seen_code c e vs P within each = elim (ℕ_discrete e.code 6) [
  | yes six ↦ subst P (rule_of 6 c e vs six) (each (chip_after BusReset))
  | no a ↦
      elim (ℕ_discrete e.code 7) [
        | yes seven ↦ subst P (rule_of 7 c e vs seven) (each (raise_usbirq uresdnirq))
        | no b ↦
            elim (ℕ_discrete e.code 8) [
              | yes eight ↦ subst P (rule_of 8 c e vs eight) (each (raise_usbirq suspirq))
              | no d ↦ subst P (rule_of 9 c e vs (nine e.code within a b d)) (each (raise_usbirq busactirq))
            ]
      ]
]
