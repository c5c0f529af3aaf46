-- The bits of the registers by the maker's names, the groups of them that a rule speaks of, and the bits that a register does not
-- have (000, register map). A group is the sum of its bits.
use Rattle.std.specs.Prelude.{List, [], ◌∷◌, ℕ, ◌+◌, ◌-◌, get_or}

-- the bits of a byte that a group does not have
abbrev pub others_than : ℕ → ℕ
others_than m = 255 - m

-- ---- R5 to R8, byte counts

-- seven bits
abbrev pub count_bits : ℕ
count_bits = 0x7f

-- ---- R9, EPSTALLS

abbrev pub ackstat : ℕ
ackstat = 0x40

abbrev pub stlstat : ℕ
stlstat = 0x20

abbrev pub stlep3in : ℕ
stlep3in = 0x10

abbrev pub stlep2in : ℕ
stlep2in = 0x08

abbrev pub stlep1out : ℕ
stlep1out = 0x04

abbrev pub stlep0out : ℕ
stlep0out = 0x02

abbrev pub stlep0in : ℕ
stlep0in = 0x01

-- all of them
abbrev pub epstalls_bits : ℕ
epstalls_bits = ackstat + stlstat + stlep3in + stlep2in + stlep1out + stlep0out + stlep0in

-- those that a SETUP clears
abbrev pub setup_stalls : ℕ
setup_stalls = ackstat + stlstat + stlep0out + stlep0in

-- ---- R10, CLRTOGS

abbrev pub ep3disab : ℕ
ep3disab = 0x80

abbrev pub ep2disab : ℕ
ep2disab = 0x40

abbrev pub ep1disab : ℕ
ep1disab = 0x20

abbrev pub ctgep3in : ℕ
ctgep3in = 0x10

abbrev pub ctgep2in : ℕ
ctgep2in = 0x08

abbrev pub ctgep1out : ℕ
ctgep1out = 0x04

-- those that are stored
abbrev pub disable_bits : ℕ
disable_bits = ep3disab + ep2disab + ep1disab

-- ---- R11, EPIRQ

abbrev pub sudavirq : ℕ
sudavirq = 0x20

abbrev pub in3bavirq : ℕ
in3bavirq = 0x10

abbrev pub in2bavirq : ℕ
in2bavirq = 0x08

abbrev pub out1davirq : ℕ
out1davirq = 0x04

abbrev pub out0davirq : ℕ
out0davirq = 0x02

abbrev pub in0bavirq : ℕ
in0bavirq = 0x01

-- all of them
abbrev pub epirq_bits : ℕ
epirq_bits = sudavirq + in3bavirq + in2bavirq + out1davirq + out0davirq + in0bavirq

-- those that a 1 clears and no packet goes with
abbrev pub cleared_epirqs : ℕ
cleared_epirqs = sudavirq + in3bavirq + in2bavirq + out0davirq + in0bavirq

-- the IN buffers are available
abbrev pub available_irqs : ℕ
available_irqs = in3bavirq + in2bavirq + in0bavirq

-- ---- R12, EPIEN

abbrev pub sudavie : ℕ
sudavie = 0x20

abbrev pub in3bavie : ℕ
in3bavie = 0x10

abbrev pub in2bavie : ℕ
in2bavie = 0x08

abbrev pub out1davie : ℕ
out1davie = 0x04

abbrev pub out0davie : ℕ
out0davie = 0x02

abbrev pub in0bavie : ℕ
in0bavie = 0x01

-- all of them
abbrev pub epien_bits : ℕ
epien_bits = sudavie + in3bavie + in2bavie + out1davie + out0davie + in0bavie

-- ---- R13, USBIRQ

abbrev pub uresdnirq : ℕ
uresdnirq = 0x80

abbrev pub vbusirq : ℕ
vbusirq = 0x40

abbrev pub novbusirq : ℕ
novbusirq = 0x20

abbrev pub suspirq : ℕ
suspirq = 0x10

abbrev pub uresirq : ℕ
uresirq = 0x08

abbrev pub busactirq : ℕ
busactirq = 0x04

abbrev pub rwudnirq : ℕ
rwudnirq = 0x02

abbrev pub oscokirq : ℕ
oscokirq = 0x01

-- those of reply byte 0
abbrev pub status_irqs : ℕ
status_irqs = suspirq + uresirq

-- ---- R14, USBIEN

abbrev pub uresdnie : ℕ
uresdnie = 0x80

abbrev pub vbusie : ℕ
vbusie = 0x40

abbrev pub novbusie : ℕ
novbusie = 0x20

abbrev pub suspie : ℕ
suspie = 0x10

abbrev pub uresie : ℕ
uresie = 0x08

abbrev pub busactie : ℕ
busactie = 0x04

abbrev pub rwudnie : ℕ
rwudnie = 0x02

abbrev pub oscokie : ℕ
oscokie = 0x01

-- ---- R15, USBCTL

abbrev pub hoscsten : ℕ
hoscsten = 0x80

abbrev pub vbgate : ℕ
vbgate = 0x40

abbrev pub chipres : ℕ
chipres = 0x20

abbrev pub pwrdown : ℕ
pwrdown = 0x10

abbrev pub connect : ℕ
connect = 0x08

abbrev pub sigrwu : ℕ
sigrwu = 0x04

-- all of them
abbrev pub usbctl_bits : ℕ
usbctl_bits = hoscsten + vbgate + chipres + pwrdown + connect + sigrwu

-- ---- R16, CPUCTL

abbrev pub ie : ℕ
ie = 0x01

-- ---- R17, PINCTL

abbrev pub ep3inak : ℕ
ep3inak = 0x80

abbrev pub ep2inak : ℕ
ep2inak = 0x40

abbrev pub ep0inak : ℕ
ep0inak = 0x20

abbrev pub fdupspi : ℕ
fdupspi = 0x10

abbrev pub intlevel : ℕ
intlevel = 0x08

abbrev pub posint : ℕ
posint = 0x04

abbrev pub gpxb : ℕ
gpxb = 0x02

abbrev pub gpxa : ℕ
gpxa = 0x01

-- those that a 1 clears
abbrev pub inak_bits : ℕ
inak_bits = ep3inak + ep2inak + ep0inak

-- those that are stored
abbrev pub pin_bits : ℕ
pin_bits = fdupspi + intlevel + posint + gpxb + gpxa

-- ---- R19, FNADDR, and R20, IOPINS

-- seven bits
abbrev pub fnaddr_bits : ℕ
fnaddr_bits = 0x7f

-- GPIN3 to GPIN0, the input pins
abbrev pub input_bits : ℕ
input_bits = 0xf0

-- GPOUT3 to GPOUT0, the output pins
abbrev pub output_bits : ℕ
output_bits = 0x0f

-- ---- the bits that R5 to R20 do not have: printed 0, or, in R10, read back 0

abbrev pub unused : List ℕ
unused =
    -- R5 to R8
    others_than count_bits ∷ others_than count_bits ∷ others_than count_bits ∷ others_than count_bits ∷
    -- R9, R10, R11, R12
    others_than epstalls_bits ∷ others_than disable_bits ∷ others_than epirq_bits ∷ others_than epien_bits ∷
    -- R13 and R14 have all eight; R15, R16
    0 ∷ 0 ∷ others_than usbctl_bits ∷ others_than ie ∷
    -- R17 has all eight; R18, R19; R20 has all eight
    0 ∷ 0xf0 ∷ others_than fnaddr_bits ∷ 0 ∷ []

-- of register n, n from 5 on
abbrev pub unused_of : ℕ → ℕ
unused_of n = get_or unused (n - 5) 0
