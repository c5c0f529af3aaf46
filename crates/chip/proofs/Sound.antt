-- Soundness by its clauses, and back: a record is sound exactly if every clause of decision 29 holds of it.
use mathlib.Core.Path.{◌≡◌, refl, sym, ap, ◌∙◌}
use mathlib.Core.Bool.{Bool, true, false, not, ◌||◌, beq}
use mathlib.Core.List.{List, [], ◌∷◌}
use Prim.Native.Nat.{ℕ, zero, suc, ◌≤◌}
use native.Mathlib.Omega.{arith}
use lib.Dec.{ltb, leb}
use lib.ListN.{length, get_or, set}
use borrow.Author.Tests.{leb-true, le-leb, not-false}
use Rattle.bits.specs.Bit.{lacks, has}
use Rattle.bits.specs.Flag.{is_on}
use Rattle.bits.proofs.Cases.{or_implies, implies_or, clause_at, clauses_all, beq_eq, beq_refl}
use Rattle.bits.proofs.Flag.{Flags, flags_clauses, clauses_flags}
use Rattle.bits.proofs.Mask.{has_none}
use Rattle.bits.proofs.Rows.{set_keeps}
use Rattle.ring.specs.declared.Ring.{Ring}
use Rattle.ring.specs.Ring.{sound_ring}
use Rattle.chip.specs.declared.Chip.{Chip}
use Rattle.chip.specs.Mask.{in2bavirq, in3bavirq, out1davirq}
use Rattle.chip.specs.Record.{bytes_of, flags_of}
use Rattle.chip.specs.Sound.{sound_ep0, sound_ep1, sound_ep2, sound_ep3, lack_each, unused_registers, sound_registers, sound_irqs, sound_flags, sound_chip}

-- ---- the clauses of each part, over what they speak of alone

pub record SoundEp0 (n r w s : ℕ) : Type 0 where
  pub count : n ≤ 64
  pub readpos : r ≤ 64
  pub writepos : w ≤ 64
  pub setuppos : s ≤ 8

pub record SoundEp1 (q : Ring) (r : ℕ) (dav : Bool) : Type 0 where
  pub ring : sound_ring 2 q ≡ true
  pub readpos : r ≤ 64
  pub irq : dav ≡ ltb 0 q.waiting

pub record SoundEp2 (q : Ring) (n w : ℕ) (bav : Bool) : Type 0 where
  pub ring : sound_ring 2 q ≡ true
  pub count : n ≤ 64
  pub writepos : w ≤ 64
  pub irq : bav ≡ true → ltb q.waiting 2 ≡ true

pub record SoundEp3 (n w armed : ℕ) (bav : Bool) : Type 0 where
  pub count : n ≤ 64
  pub writepos : w ≤ 64
  pub irq : bav ≡ true → not (is_on armed) ≡ true

-- each number of a list lacks the bits of its mask
abbrev pub Clean : List ℕ → List ℕ → Type 0
Clean xs ms = (i : ℕ) → has (get_or xs i 0) (get_or ms i 0) ≡ false

pub record Sound (c : Chip) : Type 0 where
  pub ep0 : SoundEp0 c.ep0.count c.ep0.readpos c.ep0.writepos c.ep0.setuppos
  pub ep1 : SoundEp1 c.ep1.ring c.ep1.readpos (has c.registers.epirq out1davirq)
  pub ep2 : SoundEp2 c.ep2.ring c.ep2.count c.ep2.writepos (has c.registers.epirq in2bavirq)
  pub ep3 : SoundEp3 c.ep3.count c.ep3.writepos c.ep3.armed (has c.registers.epirq in3bavirq)
  pub unused : Clean (bytes_of c.registers) unused_registers
  pub flags : Flags (flags_of c)

-- ---- unused bits

-- one number of the list is replaced by one that lacks its mask
pub clean_set : (xs ms : List ℕ) (i x : ℕ) → Clean xs ms → has x (get_or ms i 0) ≡ false → Clean (set xs i x) ms
clean_set xs ms i x h new = set_keeps (λ (j y : ℕ). has y (get_or ms j 0) ≡ false) xs i x h new

-- by any number, where the mask has no bit; the last argument is refl at a numeral
pub clean_set_any : (xs ms : List ℕ) (i x : ℕ) → Clean xs ms → get_or ms i 0 ≡ 0 → Clean (set xs i x) ms
clean_set_any xs ms i x h none = clean_set xs ms i x h (rw none (has_none x))

lack_at : (xs ms : List ℕ) (i : ℕ) → length xs ≡ length ms → get_or (lack_each xs ms) i true ≡ lacks (get_or xs i 0) (get_or ms i 0)
lack_at [] [] i e = refl
lack_at [] (m ∷ ms) i e = absurd (omega arith)
lack_at (x ∷ xs) [] i e = absurd (omega arith)
lack_at (x ∷ xs) (m ∷ ms) zero e = refl
lack_at (x ∷ xs) (m ∷ ms) (suc i) e = lack_at xs ms i (omega arith)

-- ---- and back

pub sound_clauses : (c : Chip) → sound_chip c ≡ true → Sound c
unfolding sound_chip
sound_clauses c t =
    let g = c.registers in
    let part = clause_at (sound_ep0 c.ep0 ∷ sound_ep1 c.ep1 ∷ sound_ep2 c.ep2 ∷ sound_ep3 c.ep3 ∷ sound_registers g ∷ sound_irqs c ∷
    sound_flags c ∷ []) t in
    let ep0 = clause_at (leb c.ep0.count 64 ∷ leb c.ep0.readpos 64 ∷ leb c.ep0.writepos 64 ∷ leb c.ep0.setuppos 8 ∷ [])
    (part 0) in
    let ep1 = clause_at (sound_ring 2 c.ep1.ring ∷ leb c.ep1.readpos 64 ∷ []) (part 1) in
    let ep2 = clause_at (sound_ring 2 c.ep2.ring ∷ leb c.ep2.count 64 ∷ leb c.ep2.writepos 64 ∷ []) (part 2) in
    let ep3 = clause_at (leb c.ep3.count 64 ∷ leb c.ep3.writepos 64 ∷ []) (part 3) in
    let irqs = clause_at
    ((lacks g.epirq in2bavirq || ltb c.ep2.ring.waiting 2) ∷ (lacks g.epirq in3bavirq || not (is_on c.ep3.armed)) ∷
    beq (has g.epirq out1davirq) (ltb 0 c.ep1.ring.waiting) ∷ []) (part 5) in
    record {
      ep0 = record {
        count = leb-true c.ep0.count 64 (ep0 0);
        readpos = leb-true c.ep0.readpos 64 (ep0 1);
        writepos = leb-true c.ep0.writepos 64 (ep0 2);
        setuppos = leb-true c.ep0.setuppos 8 (ep0 3);
      };
      ep1 = record {
        ring = ep1 0;
        readpos = leb-true c.ep1.readpos 64 (ep1 1);
        irq = beq_eq (has g.epirq out1davirq) (ltb 0 c.ep1.ring.waiting) (irqs 2);
      };
      ep2 = record {
        ring = ep2 0;
        count = leb-true c.ep2.count 64 (ep2 1);
        writepos = leb-true c.ep2.writepos 64 (ep2 2);
        irq = or_implies (lacks g.epirq in2bavirq) (ltb c.ep2.ring.waiting 2) (irqs 0);
      };
      ep3 = record {
        count = leb-true c.ep3.count 64 (ep3 0);
        writepos = leb-true c.ep3.writepos 64 (ep3 1);
        irq = or_implies (lacks g.epirq in3bavirq) (not (is_on c.ep3.armed)) (irqs 1);
      };
      unused = λ i. ap not (sym (lack_at (bytes_of g) unused_registers i refl) ∙ clause_at (lack_each (bytes_of g) unused_registers) (part 4) i);
      flags = flags_clauses (flags_of c) (part 6);
    }

registers_sound : (c : Chip) → Clean (bytes_of c.registers) unused_registers → sound_registers c.registers ≡ true
registers_sound c h =
    clauses_all (lack_each (bytes_of c.registers) unused_registers)
    (λ i. lack_at (bytes_of c.registers) unused_registers i refl ∙ not-false
    (lacks (get_or (bytes_of c.registers) i 0) (get_or unused_registers i 0)) (h i))

pub clauses_sound : (c : Chip) → Sound c → sound_chip c ≡ true
unfolding sound_chip
clauses_sound c s =
    rw (
      le-leb c.ep0.count 64 s.ep0.count,
      le-leb c.ep0.readpos 64 s.ep0.readpos,
      le-leb c.ep0.writepos 64 s.ep0.writepos,
      le-leb c.ep0.setuppos 8 s.ep0.setuppos,
      s.ep1.ring,
      le-leb c.ep1.readpos 64 s.ep1.readpos,
      s.ep2.ring,
      le-leb c.ep2.count 64 s.ep2.count,
      le-leb c.ep2.writepos 64 s.ep2.writepos,
      le-leb c.ep3.count 64 s.ep3.count,
      le-leb c.ep3.writepos 64 s.ep3.writepos,
      registers_sound c s.unused,
      clauses_flags (flags_of c) s.flags,
      implies_or (lacks c.registers.epirq in2bavirq) (ltb c.ep2.ring.waiting 2) s.ep2.irq,
      implies_or (lacks c.registers.epirq in3bavirq) (not (is_on c.ep3.armed)) s.ep3.irq,
      s.ep1.irq,
      beq_refl (ltb 0 c.ep1.ring.waiting),
    )
