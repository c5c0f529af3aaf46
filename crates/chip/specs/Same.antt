-- Whether two records are the same, number by number.
use Rattle.std.specs.Prelude.{Bool, true, false, ◌&&◌, List, [], ◌∷◌, ℕ, eqb}
use Rattle.bits.specs.Clauses.{clauses}
use Rattle.ring.specs.declared.Ring.{Ring}
use Rattle.chip.specs.declared.Endpoint0.{Endpoint0}
use Rattle.chip.specs.declared.Endpoint1.{Endpoint1}
use Rattle.chip.specs.declared.Endpoint2.{Endpoint2}
use Rattle.chip.specs.declared.Endpoint3.{Endpoint3}
use Rattle.chip.specs.declared.Registers.{Registers}
use Rattle.chip.specs.declared.Chip.{Chip}

-- as many numbers, and each the same
abbrev pub same_numbers : List ℕ → List ℕ → Bool
same_numbers [] [] = true
same_numbers [] (y ∷ ys) = false
same_numbers (x ∷ xs) [] = false
same_numbers (x ∷ xs) (y ∷ ys) = eqb x y && same_numbers xs ys

-- the tests of it, one for each place
abbrev pub same_each : List ℕ → List ℕ → List Bool
same_each [] [] = []
same_each [] (y ∷ ys) = false ∷ []
same_each (x ∷ xs) [] = false ∷ []
same_each (x ∷ xs) (y ∷ ys) = eqb x y ∷ same_each xs ys

-- ---- the numbers of each part beside its buffers, in their order

abbrev pub ring_numbers : Ring → List ℕ
ring_numbers r = r.oldest ∷ r.waiting ∷ []

abbrev pub ep0_numbers : Endpoint0 → List ℕ
ep0_numbers e =
    e.count ∷ e.armed ∷ e.readpos ∷ e.writepos ∷ e.setuppos ∷ e.intoggle ∷ e.outtoggle ∷ e.current ∷ []

abbrev pub ep1_numbers : Endpoint1 → List ℕ
ep1_numbers e = e.readpos ∷ e.toggle ∷ []

abbrev pub ep2_numbers : Endpoint2 → List ℕ
ep2_numbers e = e.count ∷ e.writepos ∷ e.toggle ∷ []

abbrev pub ep3_numbers : Endpoint3 → List ℕ
ep3_numbers e = e.count ∷ e.armed ∷ e.writepos ∷ e.toggle ∷ []

abbrev pub register_numbers : Registers → List ℕ
register_numbers g =
    g.epstalls ∷ g.clrtogs ∷ g.epirq ∷ g.epien ∷ g.usbirq ∷ g.usbien ∷ g.usbctl ∷ g.cpuctl ∷ g.pinctl ∷ g.fnaddr ∷ g.iopins ∷ []

abbrev pub power_numbers : Chip → List ℕ
power_numbers c = c.power.vbus ∷ c.power.oscok ∷ []

-- ---- each part, and the record

abbrev pub same_ring : Ring → Ring → Bool
same_ring a b =
    clauses (same_numbers a.bytes b.bytes ∷ same_numbers a.counts b.counts ∷ same_each (ring_numbers a) (ring_numbers b))

abbrev pub same_ep0 : Endpoint0 → Endpoint0 → Bool
same_ep0 a b =
    clauses (same_numbers a.bytes b.bytes ∷ same_numbers a.setup b.setup ∷ same_each (ep0_numbers a) (ep0_numbers b))

abbrev pub same_ep1 : Endpoint1 → Endpoint1 → Bool
same_ep1 a b = clauses (same_ring a.ring b.ring ∷ same_each (ep1_numbers a) (ep1_numbers b))

abbrev pub same_ep2 : Endpoint2 → Endpoint2 → Bool
same_ep2 a b = clauses (same_ring a.ring b.ring ∷ same_each (ep2_numbers a) (ep2_numbers b))

abbrev pub same_ep3 : Endpoint3 → Endpoint3 → Bool
same_ep3 a b = clauses (same_numbers a.bytes b.bytes ∷ same_each (ep3_numbers a) (ep3_numbers b))

abbrev pub same_registers : Registers → Registers → Bool
same_registers a b = clauses (same_each (register_numbers a) (register_numbers b))

unfoldable pub same_chip : Chip → Chip → Bool
same_chip a b =
    clauses (same_ep0 a.ep0 b.ep0 ∷ same_ep1 a.ep1 b.ep1 ∷ same_ep2 a.ep2 b.ep2 ∷ same_ep3 a.ep3 b.ep3 ∷
    same_registers a.registers b.registers ∷ same_each (power_numbers a) (power_numbers b))
