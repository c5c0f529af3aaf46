-- The laws of a mask: whether some bit of it is 1 after an operation. Any number, any masks: at numerals the masks on the
-- right compute, so `has_and x 0xF7 4` says that `x & 0xF7` keeps bit 2 and `has_or x 8 8` that `x | 8` sets bit 3.
use mathlib.Core.Path.{◌≡◌, refl, sym, ap, ◌∙◌}
use mathlib.Core.Bool.{Bool, true, false, not, ◌||◌}
use Prim.Native.Nat.{ℕ, zero, suc, ◌+◌, ◌-◌, ◌*◌, ◌^◌, min, ◌<◌, ◌≤◌}
use native.Mathlib.Nat.{lt_of_le_of_lt, zero-mul, one-mul, pow-suc, add_comm}
use native.Mathlib.Numerals.{add-one}
use native.Mathlib.Decide.{dec_lt}
use native.Mathlib.Omega.{arith}
use lib.Dec.{eqb}
use lib.Pow.{pow_pos}
use lib.Bits.{
  bit_and,
  bit_or,
  and_comm,
  and_zero_r,
  or_zero_r,
  and_le_r,
  or_lt,
  or_add_and,
  and_le_l,
  and_high,
}
use borrow.Author.Tests.{eqb-true, ne_eqb, not-false}
use Rattle.bits.specs.Bit.{bit, lacks, has, lowered, stored, masked}
use Rattle.bits.proofs.Cases.{true_is_false}
use Rattle.bits.proofs.Bit.{bit_lt, bit_of_and, bit_of_or, bit_ext, bit_high, bit_complement}

-- ---- conjunction and disjunction

pub and_assoc : (a b c : ℕ) → bit_and (bit_and a b) c ≡ bit_and a (bit_and b c)
and_assoc a b c = bit_ext _ _ (λ k. simp bit_of_and (omega arith))

pub and_or : (a b c : ℕ) → bit_and (bit_or a b) c ≡ bit_or (bit_and a c) (bit_and b c)
and_or a b c = bit_ext _ _ (λ k. simp (bit_of_and, bit_of_or) (omega arith))

-- ---- some bit of a mask

pub has_none : (x : ℕ) → has x 0 ≡ false
has_none x = ap (λ (n : ℕ). not (eqb n 0)) (and_zero_r x)

pub has_and : (x m p : ℕ) → has (bit_and x m) p ≡ has x (bit_and m p)
has_and x m p = ap (λ (n : ℕ). not (eqb n 0)) (and_assoc x m p)

-- none of a mask outside m; the last argument is refl at numerals
pub has_and_none : (x m p : ℕ) → bit_and m p ≡ 0 → has (bit_and x m) p ≡ false
has_and_none x m p e = has_and x m p ∙ ap (has x) e ∙ has_none x

-- a sum is 0 only where both parts are
nonzero_or : (a b : ℕ) → not (eqb (bit_or a b) 0) ≡ (not (eqb b 0) || not (eqb a 0))
nonzero_or a zero = ap (λ (n : ℕ). not (eqb n 0)) (or_zero_r a)
nonzero_or a (suc b) =
    let n : bit_or a (suc b) ≡ 0 → ⊥ = λ e. omega (arith, or_add_and a (suc b), and_le_l a (suc b)) in
    ap not (ne_eqb (bit_or a (suc b)) 0 n) ∙ sym (ap (λ (t : Bool). not t || not (eqb a 0)) (ne_eqb (suc b) 0 (λ e. omega arith)))

pub has_or : (x m p : ℕ) → has (bit_or x m) p ≡ (has m p || has x p)
has_or x m p = ap (λ (n : ℕ). not (eqb n 0)) (and_or x m p) ∙ nonzero_or (bit_and x p) (bit_and m p)

-- the bits of keep stay, those of set are 1
pub has_masked : (keep set x p : ℕ) → has (masked keep set x) p ≡ (has set p || has x (bit_and keep p))
has_masked keep set x p = has_or (bit_and x keep) set p ∙ ap (λ (t : Bool). has set p || t) (has_and x keep p)

-- a bit that is stored is read back; the last two arguments are refl at a numeral
pub has_stored_same : (m : ℕ) (b : Bool) (x : ℕ) → has m m ≡ true → bit_and (255 - m) m ≡ 0 → has (stored m b x) m ≡ b
has_stored_same m true x h d = has_or x m m ∙ ap (λ (t : Bool). t || has x m) h
has_stored_same m false x h d = has_and x (255 - m) m ∙ ap (has x) d ∙ has_none x

-- and leaves every other; the last two arguments are refl at numerals
pub has_stored_other : (m : ℕ) (b : Bool) (x p : ℕ) → has m p ≡ false → bit_and (255 - m) p ≡ p → has (stored m b x) p ≡ has x p
has_stored_other m true x p h d = has_or x m p ∙ ap (λ (t : Bool). t || has x p) h
has_stored_other m false x p h d = has_and x (255 - m) p ∙ ap (has x) d

-- the complement of a byte has the bits of every mask apart from it
complement_apart : (m p : ℕ) → m < 256 → p < 256 → bit_and m p ≡ 0 → bit_and (255 - m) p ≡ p
complement_apart m p hm hp apart = bit_ext (bit_and (255 - m) p) p same
  where
    none : (k : ℕ) → min (bit m k) (bit p k) ≡ 0
    none k = sym (bit_of_and m p k) ∙ ap (λ (n : ℕ). bit n k) apart ∙ bit_high 0 0 k (omega arith) (omega arith)

    same : (k : ℕ) → bit (bit_and (255 - m) p) k ≡ bit p k
    same k = elim (dec_lt k 8) [
      | yes l ↦ bit_of_and (255 - m) p k ∙ omega (arith, bit_complement 8 k m hm l, none k, bit_lt p k)
      | no g ↦ bit_of_and (255 - m) p k ∙ omega (arith, bit_high 8 p k hp (omega arith))
    ]

-- none of a mask is among a number's bits
none_of : (x p : ℕ) → has x p ≡ false → bit_and x p ≡ 0
none_of x p h = eqb-true (bit_and x p) 0 (not-false (eqb (bit_and x p) 0) h)

-- the bits of m are lowered: a mask apart from them stays
pub has_lowered_apart : (m x p : ℕ) → m < 256 → p < 256 → has m p ≡ false → has (lowered m x) p ≡ has x p
has_lowered_apart m x p hm hp apart = has_and x (255 - m) p ∙ ap (has x) (complement_apart m p hm hp (none_of m p apart))

-- bits that are 0 stay 0 within any mask
pub has_narrow : (x m p : ℕ) → has x p ≡ false → has x (bit_and m p) ≡ false
has_narrow x m p h =
    ap (λ (n : ℕ). not (eqb n 0)) (ap (bit_and x) (and_comm m p) ∙ sym (and_assoc x p m) ∙ ap (λ (n : ℕ). bit_and n m) (none_of x p h))

-- and a bit that is 1 within a mask was 1
pub has_and_was : (x m p : ℕ) → has (bit_and x m) p ≡ true → has x p ≡ true
has_and_was x m p one = was (has x p) refl
  where
    was : (t : Bool) → has x p ≡ t → t ≡ true
    was true e = refl
    was false e = true_is_false (sym one ∙ has_and x m p ∙ has_narrow x m p e)

-- a mask's bits that x lacks stay 0 where none is set
pub lacks_masked_kept : (keep set x p : ℕ) → lacks set p ≡ true → lacks x p ≡ true → lacks (masked keep set x) p ≡ true
lacks_masked_kept keep set x p h g =
    not-false (lacks (masked keep set x) p)
    (has_masked keep set x p ∙ ap (λ (t : Bool). not t || has x (bit_and keep p)) h ∙ has_narrow x keep p (ap not g))

-- and bits that are neither kept nor set are 0; the last two arguments are refl at numerals
pub lacks_masked_cleared : (keep set x p : ℕ) → lacks set p ≡ true → bit_and keep p ≡ 0 → lacks (masked keep set x) p ≡ true
lacks_masked_cleared keep set x p h g =
    not-false (lacks (masked keep set x) p)
    (has_masked keep set x p ∙ ap (λ (t : Bool). not t || has x (bit_and keep p)) h ∙ ap (has x) g ∙ has_none x)

-- a mask of one bit tests that bit
one_bit : (b n : ℕ) → b < 2 → 0 < n → not (eqb (b * n) 0) ≡ eqb b 1
one_bit zero n h g = rw zero-mul
one_bit (suc zero) n h g = rw one-mul (ap not (ne_eqb n 0 (λ e. omega arith)))
one_bit (suc (suc b)) n h g = absurd (omega arith)

pub has_bit : (x k : ℕ) → has x (2 ^ k) ≡ eqb (bit x k) 1
has_bit x k =
    ap (λ (n : ℕ). not (eqb (bit_and x n) 0)) power ∙ ap (λ (n : ℕ). not (eqb n 0)) (and_high x 1 k) ∙ one_bit (bit x k) (2 ^ k)
    (omega arith) (pow_pos k)
  where
    power : 2 ^ k ≡ 2 ^ (1 + k) - 2 ^ k
    power = rw (add_comm 1 k, add-one k, pow-suc 2 k) (omega arith)

-- a number below the bit lacks it; the last argument is an order of numerals
pub has_above : (w x k : ℕ) → x < 2 ^ w → w ≤ k → has x (2 ^ k) ≡ false
has_above w x k h l = has_bit x k ∙ ap (λ (n : ℕ). eqb n 1) (bit_high w x k h l)

-- ---- a masked number stays within its width

pub masked_lt : (w keep set x : ℕ) → keep < 2 ^ w → set < 2 ^ w → masked keep set x < 2 ^ w
masked_lt w keep set x h g = or_lt w (bit_and x keep) set (lt_of_le_of_lt (and_le_r x keep) h) g

pub stored_lt : (w m : ℕ) (b : Bool) (x : ℕ) → m < 2 ^ w → 255 - m < 2 ^ w → x < 2 ^ w → stored m b x < 2 ^ w
stored_lt w m true x h d g = or_lt w x m g h
stored_lt w m false x h d g = lt_of_le_of_lt (and_le_r x (255 - m)) d
