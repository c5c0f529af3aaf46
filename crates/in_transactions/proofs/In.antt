-- IN by the endpoint's number is the rules' own, and what parts of the record change.
use mathlib.Core.Path.{◌≡◌, refl, sym}
use mathlib.Core.Bool.{Bool, true, false, cond, ◌&&◌, ◌||◌}
use mathlib.Core.List.{[], ◌∷◌}
use Prim.Native.Nat.{ℕ}
use native.Mathlib.Decide.{ℕ_discrete}
use lib.Dec.{eqb}
use borrow.Author.Tests.{ne_eqb}
use Rattle.bits.specs.First.{first_of}
use Rattle.bits.proofs.Cases.{true_is_false, or_false}
use Rattle.ring.specs.declared.Ring.{Ring}
use Rattle.ring.specs.Ring.{without_oldest, release_oldest}
use Rattle.chip.specs.declared.Chip.{Chip}
use Rattle.chip.specs.Set.{set_fnaddr}
use Rattle.model.specs.declared.EndpointNumber.{EndpointNumber}
use Rattle.model.specs.Reply.{outcome, silence}
use Rattle.rules.specs.In.{in0, in2, in3}
use Rattle.in_transactions.specs.At.{in_at}

-- an endpoint that has IN
abbrev pub has_in : EndpointNumber → Bool
has_in n = (eqb n.0 0 || eqb n.0 2) || eqb n.0 3

pub in_at_law : (c : Chip) (n : EndpointNumber) (acknowledged : Bool) → has_in n ≡ true
    → in_at n c acknowledged ≡ first_of
    ((eqb n.0 0, in0 c acknowledged) ∷ (eqb n.0 2, in2 c acknowledged) ∷ (eqb n.0 3, in3 c acknowledged) ∷ []) (outcome c silence)
in_at_law c n acknowledged has_in = elim (ℕ_discrete n.0 0) [
  | yes e ↦ rw e
  | no zero ↦ elim (ℕ_discrete n.0 2) [
    | yes e ↦ rw e
    | no two ↦ elim (ℕ_discrete n.0 3) [
      | yes e ↦ rw e
      | no three ↦ true_is_false (sym (rw (ne_eqb n.0 0 zero, ne_eqb n.0 2 two, ne_eqb n.0 3 three) at has_in))
    ]
  ]
]

pub none_in : (n : EndpointNumber) → has_in n ≡ false → (eqb n.0 0 ≡ false) × (eqb n.0 2 ≡ false) × (eqb n.0 3 ≡ false)
none_in n none =
    let other = or_false (eqb n.0 0 || eqb n.0 2) (eqb n.0 3) none in
    let first = or_false (eqb n.0 0) (eqb n.0 2) other.0 in
    (first.0, first.1, other.1)

-- a release changes which buffer is the oldest and how many wait
abbrev moved : Ring → Ring → Ring
moved r left = record { bytes = r.bytes; counts = r.counts; oldest = left.oldest; waiting = left.waiting }

moves : (t : Bool) (r : Ring) → moved r (cond t r (without_oldest 2 r)) ≡ cond t r (without_oldest 2 r)
moves true r = refl
moves false r = refl

pub released : (r left : Ring) → left ≡ release_oldest 2 r → moved r left ≡ release_oldest 2 r
released r left e = rw e (moves (eqb r.waiting 0) r)

-- a choice of records that differ in FNADDR is a choice of FNADDR
pub fnaddr_choice : (s t : Bool) (x : ℕ) (c : Chip)
    → set_fnaddr (cond (s && t) x c.registers.fnaddr) c ≡ cond s (cond t (set_fnaddr x c) c) c
fnaddr_choice true true x c = refl
fnaddr_choice true false x c = refl
fnaddr_choice false t x c = refl
