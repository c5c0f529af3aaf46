-- Every line that document 01 names follows from the table, and no reset sets a bit that a register does not have: one
-- computed test over each list, and one law that turns it into the fact.
use mathlib.Core.Path.{◌≡◌, refl, ap, ◌∙◌}
use mathlib.Core.Bool.{Bool, true, ◌&&◌}
use Prim.Native.Nat.{ℕ, ◌+◌, ◌-◌, ◌≤◌, ◌<◌, min, max}
use native.Mathlib.Omega.{arith}
use lib.Dec.{eqb, ltb, leb}
use lib.ListN.{length, get_or}
use borrow.Author.Tests.{eqb-true, leb-true, ltb-true}
use Rattle.bits.specs.Bit.{bit, lacks}
use Rattle.bits.proofs.Cases.{and_true}
use Rattle.bits.proofs.Bit.{bit_lt, bit_masked}
use Rattle.bits.proofs.Mask.{lacks_masked_kept}
use Rattle.bits.proofs.Every.{every, every_at}
use Rattle.chip.specs.declared.Chip.{Chip}
use Rattle.chip.specs.Mask.{unused_of}
use Rattle.chip.specs.Record.{control_register}
use Rattle.reset.specs.declared.Reset.{Reset}
use Rattle.reset.specs.declared.Reset.TheVariants.{PowerOn, ChipReset, BusReset}
use Rattle.reset.specs.declared.Line.{Line}
use Rattle.reset.specs.Table.{rows, past_rows, row_of, line_of}
use Rattle.reset.specs.Reset.{chip_after}
use Rattle.reset.specs.Lines.{Fate, one, kept, fate_of, Claim, claim, Holds, seen_there}
use Rattle.reset.proofs.Law.{reset_law}

-- ---- the lines of document 01

-- what a line must say of bit b for a fate
says : Fate → Line → ℕ → Bool
says one l b = eqb (bit l.value b) 1
says kept l b = eqb (bit l.keep b) 1 && eqb (bit l.value b) 0

says_so : (o : Fate) (l : Line) (b x : ℕ) → says o l b ≡ true → max (min (bit x b) (bit l.keep b)) (bit l.value b) ≡ fate_of o
    (bit x b)
unfolding says
says_so one l b x t =
    let v : bit l.value b ≡ 1 = eqb-true (bit l.value b) 1 t in
    omega (arith, bit_lt x b)
says_so kept l b x t =
    let p = and_true (eqb (bit l.keep b) 1) (eqb (bit l.value b) 0) t in
    let k : bit l.keep b ≡ 1 = eqb-true (bit l.keep b) 1 p.0 in
    let v : bit l.value b ≡ 0 = eqb-true (bit l.value b) 0 p.1 in
    omega (arith, bit_lt x b)

-- the claim is about one of R5 to R20, and its line says so
right : Claim → Bool
right a = (leb 5 a.register && ltb a.register past_rows) && says a.becomes (line_of (row_of a.register) a.reset) a.bit_number

right_holds : (a : Claim) → right a ≡ true → Holds a
unfolding right
right_holds a t c =
    let p = and_true (leb 5 a.register && ltb a.register past_rows) _ t in
    let q = and_true (leb 5 a.register) (ltb a.register past_rows) p.0 in
    let l : Line = line_of (row_of a.register) a.reset in
    let x : ℕ = control_register c a.register in
    ap (λ (n : ℕ). bit n a.bit_number)
    (reset_law a.reset c a.register (leb-true 5 a.register q.0) (ltb-true a.register past_rows q.1))
    ∙ bit_masked l.keep l.value x a.bit_number
    ∙ says_so a.becomes l a.bit_number x p.1

claim_at : ℕ → Claim
claim_at i = get_or seen_there i (claim PowerOn 11 0 one)

all_right : every (λ i. right (claim_at i)) (length seen_there) ≡ true
unfolding right claim_at says
all_right = refl

pub seen_there_law : (i : ℕ) → i < length seen_there → Holds (get_or seen_there i (claim PowerOn 11 0 one))
unfolding claim_at
seen_there_law i h = right_holds (claim_at i) (every_at (λ i. right (claim_at i)) (length seen_there) all_right i h)

-- ---- unused bits

-- the line of register n sets none
sets_none : Reset → ℕ → Bool
sets_none k n = lacks (line_of (row_of n) k).value (unused_of n)

none_set : (k : Reset) → every (λ i. sets_none k (i + 5)) (length rows) ≡ true
unfolding sets_none
none_set PowerOn = refl
none_set ChipReset = refl
none_set BusReset = refl

-- unused bits stay 0 under every reset
pub unused_stay : (k : Reset) (c : Chip) (n : ℕ) → 5 ≤ n → n < past_rows
    → lacks (control_register c n) (unused_of n) ≡ true → lacks (control_register (chip_after k c) n) (unused_of n) ≡ true
unfolding sets_none
unused_stay k c n h l g =
    let number : n - 5 + 5 ≡ n = omega arith in
    let none : sets_none k n ≡ true = rw number at (every_at (λ i. sets_none k (i + 5)) (length rows) (none_set k) (n - 5) (omega arith)) in
    ap (λ (x : ℕ). lacks x (unused_of n)) (reset_law k c n h l)
    ∙ lacks_masked_kept (line_of (row_of n) k).keep (line_of (row_of n) k).value (control_register c n) (unused_of n) none g
