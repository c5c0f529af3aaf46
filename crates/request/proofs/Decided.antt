-- A decision that is right of a request with its type and code written out is right of the request: so the rules of other
-- types and codes compute away.
use mathlib.Core.Path.{◌≡◌, ◌∙◌, sym, ap₂}
use Prim.Native.Nat.{ℕ}
use borrow.Author.Tests.{ne_eqb}
use Rattle.request.specs.Request.{rules, decision_of}
use Rattle.bits.specs.First.{first_of}
use Rattle.request.specs.declared.Firmware.{Firmware}
use Rattle.request.specs.declared.Request.{Request}
use Rattle.request.specs.declared.Decision.{Decision}
use Rattle.request.specs.declared.Decision.TheVariants.{Stall}

-- the request with another type and code
abbrev coded : Request → ℕ → ℕ → Request
coded q type code = record { bmrequesttype = type; brequest = code; wvalue = q.wvalue; windex = q.windex; wlength = q.wlength }

pub decided : (q : Request) (f : Firmware) {type code : ℕ} {d : Decision} → q.bmrequesttype ≡ type → q.brequest ≡ code
    → d ≡ first_of (rules (coded q type code) f) Stall → d ≡ decision_of q f
unfolding decision_of
decided q f t c e = e ∙ sym (ap₂ (λ (type code : ℕ). decision_of (coded q type code) f) t c)

-- a type that no rule has
pub undecided : (q : Request) (f : Firmware) → (q.bmrequesttype ≡ 0x80 → ⊥) → (q.bmrequesttype ≡ 0x81 → ⊥) → (q.bmrequesttype ≡ 0x82 → ⊥)
    → (q.bmrequesttype ≡ 0x00 → ⊥) → (q.bmrequesttype ≡ 0x01 → ⊥) → (q.bmrequesttype ≡ 0x02 → ⊥) → Stall ≡ decision_of q f
unfolding decision_of
undecided q f a b c d e g = simp (ne_eqb _ 0x80 a, ne_eqb _ 0x81 b, ne_eqb _ 0x82 c, ne_eqb _ 0x00 d, ne_eqb _ 0x01 e, ne_eqb _ 0x02 g)
