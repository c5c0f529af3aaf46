-- Two records that are the same by the test are equal, part by part.
use mathlib.Core.Path.{◌≡◌, refl, sym, ap₂}
use mathlib.Core.Bool.{Bool, true}
use mathlib.Core.List.{List, [], ◌∷◌}
use Prim.Native.Nat.{ℕ, zero, suc}
use lib.Dec.{eqb}
use lib.ListN.{get_or}
use borrow.Author.Tests.{eqb-true}
use Rattle.bits.specs.Clauses.{clauses}
use Rattle.bits.proofs.Cases.{and_true, true_is_false, clause_at, clauses_all}
use Rattle.ring.specs.declared.Ring.{Ring}
use Rattle.chip.specs.declared.Endpoint0.{Endpoint0}
use Rattle.chip.specs.declared.Endpoint1.{Endpoint1}
use Rattle.chip.specs.declared.Endpoint2.{Endpoint2}
use Rattle.chip.specs.declared.Endpoint3.{Endpoint3}
use Rattle.chip.specs.declared.Registers.{Registers}
use Rattle.chip.specs.declared.Chip.{Chip}
use Rattle.chip.specs.Same.{same_numbers, same_each, ring_numbers, ep0_numbers, ep1_numbers, ep2_numbers, ep3_numbers, register_numbers}
use Rattle.chip.specs.Same.{power_numbers, same_ring, same_ep0, same_ep1, same_ep2, same_ep3, same_registers, same_chip}

-- ---- numbers

pub same_numbers_law : (xs ys : List ℕ) → same_numbers xs ys ≡ true → xs ≡ ys
same_numbers_law [] [] e = refl
same_numbers_law [] (y ∷ ys) e = true_is_false (sym e)
same_numbers_law (x ∷ xs) [] e = true_is_false (sym e)
same_numbers_law (x ∷ xs) (y ∷ ys) e =
    let both = and_true (eqb x y) (same_numbers xs ys) e in
    ap₂ (λ (z : ℕ) (zs : List ℕ). z ∷ zs) (eqb-true x y both.0) (same_numbers_law xs ys both.1)

-- the first clause, and the others
apart : (b : Bool) (bs : List Bool) → clauses (b ∷ bs) ≡ true → (b ≡ true) × (clauses bs ≡ true)
apart b bs h = (clause_at (b ∷ bs) h zero, clauses_all bs (λ i. clause_at (b ∷ bs) h (suc i)))

pub same_each_law : (xs ys : List ℕ) → clauses (same_each xs ys) ≡ true → xs ≡ ys
same_each_law [] [] e = refl
same_each_law [] (y ∷ ys) e = true_is_false (sym e)
same_each_law (x ∷ xs) [] e = true_is_false (sym e)
same_each_law (x ∷ xs) (y ∷ ys) e =
    let both = apart (eqb x y) (same_each xs ys) e in
    ap₂ (λ (z : ℕ) (zs : List ℕ). z ∷ zs) (eqb-true x y both.0) (same_each_law xs ys both.1)

-- ---- parts: each is read back from its buffers and its numbers

-- two buffers and the numbers beside them
two_buffers : (ws xs ys zs ms ns : List ℕ) → clauses (same_numbers ws xs ∷ same_numbers ys zs ∷ same_each ms ns) ≡ true
    → (ws ≡ xs) × (ys ≡ zs) × (ms ≡ ns)
two_buffers ws xs ys zs ms ns e =
    let first = apart (same_numbers ws xs) (same_numbers ys zs ∷ same_each ms ns) e in
    let second = apart (same_numbers ys zs) (same_each ms ns) first.1 in
    (same_numbers_law ws xs first.0, same_numbers_law ys zs second.0, same_each_law ms ns second.1)

same_ring_law : (a b : Ring) → same_ring a b ≡ true → a ≡ b
same_ring_law a b e =
    let same = two_buffers a.bytes b.bytes a.counts b.counts (ring_numbers a) (ring_numbers b) e in
    λ i. record { bytes = same.0 i; counts = same.1 i; oldest = get_or (same.2 i) 0 0; waiting = get_or (same.2 i) 1 0 }

same_ep0_law : (a b : Endpoint0) → same_ep0 a b ≡ true → a ≡ b
same_ep0_law a b e =
    let same = two_buffers a.bytes b.bytes a.setup b.setup (ep0_numbers a) (ep0_numbers b) e in
    let numbers = same.2 in
    λ i. record {
      bytes = same.0 i;
      setup = same.1 i;
      count = get_or (numbers i) 0 0;
      armed = get_or (numbers i) 1 0;
      readpos = get_or (numbers i) 2 0;
      writepos = get_or (numbers i) 3 0;
      setuppos = get_or (numbers i) 4 0;
      intoggle = get_or (numbers i) 5 0;
      outtoggle = get_or (numbers i) 6 0;
      current = get_or (numbers i) 7 0;
    }

same_ep1_law : (a b : Endpoint1) → same_ep1 a b ≡ true → a ≡ b
same_ep1_law a b e =
    let both = apart (same_ring a.ring b.ring) (same_each (ep1_numbers a) (ep1_numbers b)) e in
    let ring = same_ring_law a.ring b.ring both.0 in
    let numbers = same_each_law (ep1_numbers a) (ep1_numbers b) both.1 in
    λ i. record { ring = ring i; readpos = get_or (numbers i) 0 0; toggle = get_or (numbers i) 1 0 }

same_ep2_law : (a b : Endpoint2) → same_ep2 a b ≡ true → a ≡ b
same_ep2_law a b e =
    let both = apart (same_ring a.ring b.ring) (same_each (ep2_numbers a) (ep2_numbers b)) e in
    let ring = same_ring_law a.ring b.ring both.0 in
    let numbers = same_each_law (ep2_numbers a) (ep2_numbers b) both.1 in
    λ i. record { ring = ring i; count = get_or (numbers i) 0 0; writepos = get_or (numbers i) 1 0; toggle = get_or (numbers i) 2 0 }

same_ep3_law : (a b : Endpoint3) → same_ep3 a b ≡ true → a ≡ b
same_ep3_law a b e =
    let both = apart (same_numbers a.bytes b.bytes) (same_each (ep3_numbers a) (ep3_numbers b)) e in
    let bytes = same_numbers_law a.bytes b.bytes both.0 in
    let numbers = same_each_law (ep3_numbers a) (ep3_numbers b) both.1 in
    λ i. record {
      bytes = bytes i;
      count = get_or (numbers i) 0 0;
      armed = get_or (numbers i) 1 0;
      writepos = get_or (numbers i) 2 0;
      toggle = get_or (numbers i) 3 0;
    }

same_registers_law : (a b : Registers) → same_registers a b ≡ true → a ≡ b
same_registers_law a b e =
    let numbers = same_each_law (register_numbers a) (register_numbers b) e in
    λ i. record {
      epstalls = get_or (numbers i) 0 0;
      clrtogs = get_or (numbers i) 1 0;
      epirq = get_or (numbers i) 2 0;
      epien = get_or (numbers i) 3 0;
      usbirq = get_or (numbers i) 4 0;
      usbien = get_or (numbers i) 5 0;
      usbctl = get_or (numbers i) 6 0;
      cpuctl = get_or (numbers i) 7 0;
      pinctl = get_or (numbers i) 8 0;
      fnaddr = get_or (numbers i) 9 0;
      iopins = get_or (numbers i) 10 0;
    }

-- ---- the record

pub same_chip_law : (a b : Chip) → same_chip a b ≡ true → a ≡ b
unfolding same_chip
same_chip_law a b e =
    let power = same_each (power_numbers a) (power_numbers b) in
    let registers = same_registers a.registers b.registers in
    let at3 = same_ep3 a.ep3 b.ep3 in
    let at2 = same_ep2 a.ep2 b.ep2 in
    let at1 = same_ep1 a.ep1 b.ep1 in
    let zeroth = apart (same_ep0 a.ep0 b.ep0) (at1 ∷ at2 ∷ at3 ∷ registers ∷ power) e in
    let first = apart at1 (at2 ∷ at3 ∷ registers ∷ power) zeroth.1 in
    let second = apart at2 (at3 ∷ registers ∷ power) first.1 in
    let third = apart at3 (registers ∷ power) second.1 in
    let last = apart registers power third.1 in
    let ep0 = same_ep0_law a.ep0 b.ep0 zeroth.0 in
    let ep1 = same_ep1_law a.ep1 b.ep1 first.0 in
    let ep2 = same_ep2_law a.ep2 b.ep2 second.0 in
    let ep3 = same_ep3_law a.ep3 b.ep3 third.0 in
    let bits = same_registers_law a.registers b.registers last.0 in
    let supply = same_each_law (power_numbers a) (power_numbers b) last.1 in
    λ i. record {
      ep0 = ep0 i;
      ep1 = ep1 i;
      ep2 = ep2 i;
      ep3 = ep3 i;
      registers = bits i;
      power = record { vbus = get_or (supply i) 0 0; oscok = get_or (supply i) 1 0 };
    }
