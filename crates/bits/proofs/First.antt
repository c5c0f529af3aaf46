-- Laws of rules in a row: what holds of what they give, which tests an outcome tells of, which rule decides; and of a change that is
-- made unless a test holds.
use mathlib.Core.Path.{◌≡◌, refl, sym, ap, ◌∙◌, subst}
use mathlib.Core.Bool.{Bool, true, false, not, cond, ◌&&◌}
use mathlib.Core.List.{List, [], ◌∷◌, map}
use Prim.Native.Nat.{ℕ, zero, suc, ◌≤◌, ◌<◌}
use native.Mathlib.Nat.{lt_trans}
use native.Mathlib.Omega.{arith}
use lib.Dec.{ltb}
use lib.ListN.{length, get_or}
use borrow.Author.Tests.{ltb-true}
use Rattle.bits.specs.First.{first_of, unless}
use Rattle.bits.proofs.Cases.{cond_elim, cond_elim₂, cond_map, and_true, true_is_false}

-- ---- what holds of every outcome

infixr 20 ◌⨾◌
-- P holds of the result of each rule whose test holds
pub data Each {A : Type 0} (P : A → Type 0) : List (Bool × A) → Type 0 where
  none : Each P []
  ◌⨾◌ : {rule : Bool × A} {rules : List (Bool × A)} → (rule.0 ≡ true → P rule.1) → Each P rules → Each P (rule ∷ rules)

-- the test of rule i; a rule that is not there does not apply
abbrev pub test_at : {A : Type 0} → List (Bool × A) → ℕ → Bool
test_at [] i = false
test_at (rule ∷ rules) zero = rule.0
test_at (rule ∷ rules) (suc i) = test_at rules i

none_apply : {A : Type 0} (rule : Bool × A) (rules : List (Bool × A)) → rule.0 ≡ false → ((i : ℕ) → test_at rules i ≡ false)
    → (i : ℕ) → test_at (rule ∷ rules) i ≡ false
none_apply rule rules e rest zero = e
none_apply rule rules e rest (suc i) = rest i

-- what holds of each rule's result whose test holds, and of the last argument where no test does, holds of what the rules give
pub first_elim : {A : Type 0} (P : A → Type 0) (rules : List (Bool × A)) (z : A) → Each P rules → (((i : ℕ) → test_at rules i ≡ false) → P z)
    → P (first_of rules z)
first_elim P [] z none p = p (λ i. refl)
first_elim P (rule ∷ rules) z (f ⨾ each) p = cond_elim P rule.0 f
    (λ e. first_elim P rules z each (λ rest. p (none_apply rule rules e rest)))

pub first_each : {A : Type 0} (P : A → Type 0) (rules : List (Bool × A)) (z : A) → Each P rules → P z → P (first_of rules z)
first_each P rules z each p = first_elim P rules z each (λ _. p)

-- what a function gives of the rules' result is the result of the rules with what it gives
module _ {A B : Type 0} (g : A → B) where
  pub first_map : (rules : List (Bool × A)) (z : A) → g (first_of rules z) ≡ first_of
      (map (λ (rule : Bool × A). (rule.0, g rule.1)) rules) (g z)
  first_map [] z = refl
  first_map (rule ∷ rules) z = cond_map g rule.0 rule.1 (first_of rules z) ∙ ap (cond rule.0 (g rule.1)) (first_map rules z)

  pub unless_map : (ts : List Bool) (x y : A) → g (unless ts x y) ≡ unless ts (g x) (g y)
  unless_map [] x y = refl
  unless_map (t ∷ ts) x y = cond_map g t x (unless ts x y) ∙ ap (cond t (g x)) (unless_map ts x y)

-- ---- which tests an outcome tells of

-- no rule gives an outcome that f accepts
abbrev pub none_gives : {A : Type 0} → (A → Bool) → List (Bool × A) → Bool
none_gives f [] = true
none_gives f (rule ∷ rules) = not (f rule.1) && none_gives f rules

module _ {A : Type 0} (f : A → Bool) where
  skips : (t : Bool) (x y : A) → not (f x) ≡ true → f (cond t x y) ≡ true → (t ≡ false) × (f y ≡ true)
  skips true x y n m = true_is_false (sym n ∙ ap not m)
  skips false x y n m = (refl, m)

  -- an outcome that f accepts and no rule gives is given only where no rule applies
  pub first_none : (rules : List (Bool × A)) (z : A) → none_gives f rules ≡ true → f (first_of rules z) ≡ true → (i : ℕ) → test_at rules i
      ≡ false
  first_none [] z n m i = refl
  first_none (rule ∷ rules) z n m zero = (skips rule.0 rule.1 (first_of rules z)
      (and_true (not (f rule.1)) (none_gives f rules) n).0 m).0
  first_none (rule ∷ rules) z n m (suc i) =
      let both = and_true (not (f rule.1)) (none_gives f rules) n in
      first_none rules z both.1 (skips rule.0 rule.1 (first_of rules z) both.0 m).1 i

-- and then it is the last argument
pub first_last : {A : Type 0} (rules : List (Bool × A)) (z : A) → ((i : ℕ) → test_at rules i ≡ false) → first_of rules z ≡ z
first_last [] z h = refl
first_last (rule ∷ rules) z h = ap (λ (t : Bool). cond t rule.1 (first_of rules z)) (h 0) ∙ first_last rules z (λ i. h (suc i))

-- ---- the rule that decides

-- rule i applies, and none before it does
pub record FirstAt {A : Type 0} (rules : List (Bool × A)) (i : ℕ) : Type 0 where
  pub applies : test_at rules i ≡ true
  pub before : (j : ℕ) → j < i → test_at rules j ≡ false

-- what rule i gives; z where there is no such rule
abbrev pub outcome_at : {A : Type 0} → A → List (Bool × A) → ℕ → A
outcome_at z [] i = z
outcome_at z (rule ∷ rules) zero = rule.1
outcome_at z (rule ∷ rules) (suc i) = outcome_at z rules i

module _ {A : Type 0} (rule : Bool × A) (rules : List (Bool × A)) where
  -- the first rule applies
  first_now : rule.0 ≡ true → FirstAt (rule ∷ rules) 0
  first_now t = record { applies = t; before = λ j h. absurd (omega arith) }

  -- it does not, so the first of the others decides
  first_later : (i : ℕ) → rule.0 ≡ false → FirstAt rules i → FirstAt (rule ∷ rules) (suc i)
  first_later i t f = record { applies = f.applies; before = λ j h. earlier j h }
    where
      earlier : (j : ℕ) → j < suc i → test_at (rule ∷ rules) j ≡ false
      earlier zero h = t
      earlier (suc j) h = f.before j (omega arith)

  first_rest : (i : ℕ) → FirstAt (rule ∷ rules) (suc i) → FirstAt rules i
  first_rest i f = record { applies = f.applies; before = λ j h. f.before (suc j) (omega arith) }

-- what the first rule that applies gives is given
pub first_at : {A : Type 0} (rules : List (Bool × A)) (z : A) (i : ℕ) → FirstAt rules i → first_of rules z ≡ outcome_at z rules i
first_at [] z i f = refl
first_at (rule ∷ rules) z zero f = ap (λ (t : Bool). cond t rule.1 (first_of rules z)) f.applies
first_at (rule ∷ rules) z (suc i) f =
    ap (λ (t : Bool). cond t rule.1 (first_of rules z)) (f.before 0 (omega arith)) ∙ first_at rules z i (first_rest rule rules i f)

-- ---- ranked outcomes

module _ {A : Type 0} (rank : A → ℕ) where
  -- the ranks go upwards, from above n
  abbrev pub ascending : ℕ → List (Bool × A) → Bool
  ascending n [] = true
  ascending n (rule ∷ rules) = ltb n (rank rule.1) && ascending (rank rule.1) rules

module _ {A : Type 0} (rank : A → ℕ) where
  ascends : (n : ℕ) (rule : Bool × A) (rules : List (Bool × A)) → ascending rank n (rule ∷ rules) ≡ true
      → (n < rank rule.1) × (ascending rank (rank rule.1) rules ≡ true)
  ascends n rule rules a =
      let both = and_true (ltb n (rank rule.1)) (ascending rank (rank rule.1) rules) a in
      (ltb-true n (rank rule.1) both.0, both.1)

  -- so no outcome has a rank that is not above n
  each_other : (n m : ℕ) (rules : List (Bool × A)) → n ≤ m → ascending rank m rules ≡ true → Each (λ (x : A). rank x ≡ n → ⊥) rules
  each_other n m [] h a = none
  each_other n m (rule ∷ rules) h a =
      let both = ascends m rule rules a in
      (λ (t : rule.0 ≡ true) (e : rank rule.1 ≡ n). omega (arith, e, both.0)) ⨾
      each_other n (rank rule.1) rules (omega (arith, both.0)) both.1

  outcome_above : (n : ℕ) (rules : List (Bool × A)) (z : A) (i : ℕ) → ascending rank n rules ≡ true → i < length rules
      → n < rank (outcome_at z rules i)
  outcome_above n [] z i a h = absurd (omega arith)
  outcome_above n (rule ∷ rules) z zero a h = (ascends n rule rules a).0
  outcome_above n (rule ∷ rules) z (suc i) a h =
      let both = ascends n rule rules a in
      lt_trans both.0 (outcome_above (rank rule.1) rules z i both.1 (omega arith))

  -- where the ranks go upwards, from above that of the last argument, an outcome is given by its own rule only
  pub first_only : (n : ℕ) (rules : List (Bool × A)) (z : A) (i : ℕ) → ascending rank n rules ≡ true → rank z ≤ n → i < length rules
      → rank (first_of rules z) ≡ rank (outcome_at z rules i) → FirstAt rules i
  first_only n [] z i a low h e = absurd (omega arith)
  first_only n (rule ∷ rules) z i a low h e =
      let both = ascends n rule rules a in
      by rule.0 refl both.0 both.1
      (λ j. first_only (rank rule.1) rules z j both.1 (omega (arith, both.0, low))) i h e
    where
      by : (t : Bool) → rule.0 ≡ t → n < rank rule.1 → ascending rank (rank rule.1) rules ≡ true
          → ((j : ℕ) → j < length rules → rank (first_of rules z) ≡ rank (outcome_at z rules j) → FirstAt rules j) → (i : ℕ)
          → i < suc (length rules) → rank (cond t rule.1 (first_of rules z)) ≡ rank (outcome_at z (rule ∷ rules) i)
          → FirstAt (rule ∷ rules) i
      by true t above rest later zero h e = first_now rule rules t
      by true t above rest later (suc i) h e =
          absurd (omega (arith, e, outcome_above (rank rule.1) rules z i rest (omega arith)))
      by false t above rest later zero h e =
          absurd (first_each (λ (x : A). rank x ≡ rank rule.1 → ⊥) rules z
          (each_other (rank rule.1) (rank rule.1) rules (omega arith) rest) (λ r. omega (arith, above, low)) e)
      by false t above rest later (suc i) h e = first_later rule rules i t (later i (omega arith) e)

-- ---- a change that is made unless a test holds

abbrev pub holds_at : List Bool → ℕ → Bool
holds_at ts i = get_or ts i false

none_more : (t : Bool) (ts : List Bool) → t ≡ false → ((i : ℕ) → holds_at ts i ≡ false) → (i : ℕ) → holds_at (t ∷ ts) i ≡ false
none_more t ts e rest zero = e
none_more t ts e rest (suc i) = rest i

-- what holds before, and after the change where no test holds, holds in either case
pub unless_elim : {A : Type 0} (P : A → Type 0) (ts : List Bool) {x y : A} → P x → (((i : ℕ) → holds_at ts i ≡ false) → P y) → P
    (unless ts x y)
unless_elim P [] p q = q (λ i. refl)
unless_elim P (t ∷ ts) p q = cond_elim P t (λ _. p) (λ e. unless_elim P ts p (λ rest. q (none_more t ts e rest)))

-- the same on two sides that make the same tests
unless_both : {A B : Type 0} (P : A → B → Type 0) (ts : List Bool) {x y : A} {u v : B} → P x u → (((i : ℕ) → holds_at ts i ≡ false) → P y v)
    → P (unless ts x y) (unless ts u v)
unless_both P [] p q = q (λ i. refl)
unless_both P (t ∷ ts) p q = cond_elim₂ P t t refl (λ _. p) (λ e. unless_both P ts p (λ rest. q (none_more t ts e rest)))

pub unless_elim₂ : {A B : Type 0} (P : A → B → Type 0) (ss ts : List Bool) {x y : A} {u v : B} → ss ≡ ts → P x u
    → (((i : ℕ) → holds_at ts i ≡ false) → P y v) → P (unless ss x y) (unless ts u v)
unless_elim₂ P ss ts {x} {y} {u} {v} e p q = subst (λ (l : List Bool). P (unless l x y) (unless ts u v)) (sym e) (unless_both P ts p q)
