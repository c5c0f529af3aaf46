-- Laws of flags: a list of them by places, and back; which changes leave them flags.
use mathlib.Core.Path.{◌≡◌, refl, ◌∙◌}
use mathlib.Core.Bool.{Bool, true, false, cond}
use mathlib.Core.List.{List, [], ◌∷◌}
use Prim.Native.Nat.{ℕ, zero, suc, ◌≤◌}
use native.Mathlib.Omega.{arith}
use lib.ListN.{get_or, set}
use borrow.Author.Tests.{leb-true, le-leb, eqb-false}
use Rattle.bits.specs.Clauses.{clauses}
use Rattle.bits.specs.Flag.{is_on, is_flag, flag_each, flipped}
use Rattle.bits.proofs.Cases.{cond_elim, clause_at, clauses_all}
use Rattle.bits.proofs.Rows.{set_keeps}

-- ---- a list of flags

pub record Flags (xs : List ℕ) : Type 0 where
  pub each : (i : ℕ) → get_or xs i 0 ≤ 1

flag_at : (xs : List ℕ) (i : ℕ) → get_or (flag_each xs) i true ≡ is_flag (get_or xs i 0)
flag_at [] i = refl
flag_at (x ∷ xs) zero = refl
flag_at (x ∷ xs) (suc i) = flag_at xs i

pub flags_clauses : (xs : List ℕ) → clauses (flag_each xs) ≡ true → Flags xs
flags_clauses xs t = record { each = λ i. leb-true (get_or xs i 0) 1 (rw (flag_at xs i) at (clause_at (flag_each xs) t i)) }

pub clauses_flags : (xs : List ℕ) → Flags xs → clauses (flag_each xs) ≡ true
clauses_flags xs h = clauses_all (flag_each xs) (λ i. flag_at xs i ∙ le-leb (get_or xs i 0) 1 (h.each i))

-- one of them replaced
pub flags_set : (xs : List ℕ) (i x : ℕ) → Flags xs → x ≤ 1 → Flags (set xs i x)
flags_set xs i x h new = record { each = set_keeps (λ (j y : ℕ). y ≤ 1) xs i x h.each new }

-- ---- one flag

pub flipped_flag : (x : ℕ) → flipped x ≤ 1
flipped_flag x = cond_elim (λ (y : ℕ). y ≤ 1) (is_on x) (λ _. omega arith) (λ _. omega arith)

-- off or kept
pub cleared_flag : (t : Bool) (x : ℕ) → x ≤ 1 → cond t 0 x ≤ 1
cleared_flag t x h = cond_elim (λ (y : ℕ). y ≤ 1) t (λ _. omega arith) (λ _. h)

-- a flag that is off is 0
pub off_flag : (x : ℕ) → x ≤ 1 → is_on x ≡ false → x ≡ 0
off_flag x h e = let n = eqb-false x 1 e in omega arith
