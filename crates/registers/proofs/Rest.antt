-- What the last arm of each `match` on a register's number knows: the number is none of those before it.
use mathlib.Core.Path.{◌≡◌, refl, ap, sym, ◌∙◌}
use mathlib.Core.List.{List, [], ◌∷◌}
use Prim.Native.Nat.{ℕ, ◌-◌}
use native.Mathlib.Omega.{arith}
use lib.ListN.{get_or-eq_default}
use Rattle.bits.proofs.Rows.{◌⨾◌, none, rows_all}
use Rattle.chip.specs.declared.Registers.{Registers}
use Rattle.chip.specs.declared.Chip.{Chip}
use Rattle.chip.specs.Record.{bytes_of, control_registers}
use Rattle.model.specs.Spi.{write_to, read_to, read_of}
use Rattle.rules.specs.Write.{WriteRule, ignored, write_rules}
use Rattle.rules.specs.Read.{ReadRule, read_ep0fifo, read_ep1outfifo, read_nothing, read_sudfifo, read_control}
use Rattle.rules.specs.Spi.{max3420e_spi}
use Rattle.registers.specs.Part.{plain_rules, plain_rule, plain_byte}

-- the number is none of a list, the last of the `match` first
abbrev pub NoneOf : List ℕ → ℕ → Type 0
NoneOf [] n = Unit
NoneOf (k ∷ ks) n = NoneOf ks n × (n ≡ k → ⊥)

-- ---- writes

abbrev pub Others : ℕ → Type 0
Others = NoneOf (15 ∷ 11 ∷ 10 ∷ 8 ∷ 7 ∷ 5 ∷ 3 ∷ 2 ∷ 0 ∷ [])

-- every register that is written by a rule of its own is among those
pub plain_others : (c : Chip) (b n : ℕ) → Others n → plain_rule n c b ≡ write_to max3420e_spi c n b
plain_others c b =
    rows_all (λ (n : ℕ). Others n → plain_rule n c b ≡ write_to max3420e_spi c n b) 21
    ((λ o. absurd (o.0.0.0.0.0.0.0.0.1 refl)) ⨾ (λ o. refl) ⨾ (λ o. absurd (o.0.0.0.0.0.0.0.1 refl)) ⨾
    (λ o. absurd (o.0.0.0.0.0.0.1 refl)) ⨾ (λ o. refl) ⨾ (λ o. absurd (o.0.0.0.0.0.1 refl)) ⨾ (λ o. refl) ⨾
    (λ o. absurd (o.0.0.0.0.1 refl)) ⨾ (λ o. absurd (o.0.0.0.1 refl)) ⨾ (λ o. refl) ⨾
    (λ o. absurd (o.0.0.1 refl)) ⨾ (λ o. absurd (o.0.1 refl)) ⨾ (λ o. refl) ⨾ (λ o. refl) ⨾ (λ o. refl) ⨾
    (λ o. absurd (o.1 refl)) ⨾ (λ o. refl) ⨾ (λ o. refl) ⨾ (λ o. refl) ⨾ (λ o. refl) ⨾ (λ o. refl) ⨾ none)
    (λ n h o. ap (λ (f : WriteRule). f c b) (get_or-eq_default plain_rules ignored h ∙ sym (get_or-eq_default write_rules ignored h)))

abbrev pub NotPlain : ℕ → Type 0
NotPlain = NoneOf (20 ∷ 17 ∷ 16 ∷ 14 ∷ 13 ∷ 12 ∷ 9 ∷ [])

pub ignored_others : (c : Chip) (b n : ℕ) → NotPlain n → c ≡ plain_rule n c b
ignored_others c b =
    rows_all (λ (n : ℕ). NotPlain n → c ≡ plain_rule n c b) 21
    ((λ o. refl) ⨾ (λ o. refl) ⨾ (λ o. refl) ⨾ (λ o. refl) ⨾ (λ o. refl) ⨾ (λ o. refl) ⨾ (λ o. refl) ⨾ (λ o. refl) ⨾
    (λ o. refl) ⨾ (λ o. absurd (o.0.0.0.0.0.0.1 refl)) ⨾ (λ o. refl) ⨾ (λ o. refl) ⨾
    (λ o. absurd (o.0.0.0.0.0.1 refl)) ⨾ (λ o. absurd (o.0.0.0.0.1 refl)) ⨾ (λ o. absurd (o.0.0.0.1 refl)) ⨾
    (λ o. refl) ⨾ (λ o. absurd (o.0.0.1 refl)) ⨾ (λ o. absurd (o.0.1 refl)) ⨾ (λ o. refl) ⨾ (λ o. refl) ⨾
    (λ o. absurd (o.1 refl)) ⨾ none)
    (λ n h o. ap (λ (f : WriteRule). f c b) (sym (get_or-eq_default plain_rules ignored h)))

-- ---- reads

abbrev pub NotByte : ℕ → Type 0
NotByte = NoneOf (20 ∷ 19 ∷ 18 ∷ 17 ∷ 16 ∷ 15 ∷ 14 ∷ 13 ∷ 12 ∷ 11 ∷ 10 ∷ 9 ∷ [])

pub byte_others : (g : Registers) (n : ℕ) → NotByte n → 0 ≡ plain_byte g n
byte_others g =
    rows_all (λ (n : ℕ). NotByte n → 0 ≡ plain_byte g n) 21
    ((λ o. refl) ⨾ (λ o. refl) ⨾ (λ o. refl) ⨾ (λ o. refl) ⨾ (λ o. refl) ⨾ (λ o. refl) ⨾ (λ o. refl) ⨾ (λ o. refl) ⨾
    (λ o. refl) ⨾ (λ o. absurd (o.0.0.0.0.0.0.0.0.0.0.0.1 refl)) ⨾
    (λ o. absurd (o.0.0.0.0.0.0.0.0.0.0.1 refl)) ⨾ (λ o. absurd (o.0.0.0.0.0.0.0.0.0.1 refl)) ⨾
    (λ o. absurd (o.0.0.0.0.0.0.0.0.1 refl)) ⨾ (λ o. absurd (o.0.0.0.0.0.0.0.1 refl)) ⨾
    (λ o. absurd (o.0.0.0.0.0.0.1 refl)) ⨾ (λ o. absurd (o.0.0.0.0.0.1 refl)) ⨾
    (λ o. absurd (o.0.0.0.0.1 refl)) ⨾ (λ o. absurd (o.0.0.0.1 refl)) ⨾ (λ o. absurd (o.0.0.1 refl)) ⨾
    (λ o. absurd (o.0.1 refl)) ⨾ (λ o. absurd (o.1 refl)) ⨾ none)
    (λ n h o. sym (get_or-eq_default (0 ∷ 0 ∷ 0 ∷ 0 ∷ 0 ∷ 0 ∷ 0 ∷ 0 ∷ 0 ∷ bytes_of g) 0 h))

abbrev pub Readers : List ReadRule
Readers = read_ep0fifo ∷ read_ep1outfifo ∷ read_nothing ∷ read_nothing ∷ read_sudfifo ∷ []

abbrev pub NotRead : ℕ → Type 0
NotRead = NoneOf (8 ∷ 7 ∷ 6 ∷ 5 ∷ 4 ∷ 1 ∷ 0 ∷ [])

-- what is read of register n where it is none of those
abbrev Plain : Chip → ℕ → Type 0
Plain c n = NotRead n → plain_byte c.registers n ≡ read_of max3420e_spi c n

plain : (c : Chip) (n : ℕ) → plain_byte c.registers n ≡ read_of max3420e_spi c n → Plain c n
plain c n e o = e

pub read_others : (c : Chip) (n : ℕ) → NotRead n → plain_byte c.registers n ≡ read_of max3420e_spi c n
read_others c =
    rows_all (Plain c) 21
    ((λ o. absurd (o.0.0.0.0.0.0.1 refl)) ⨾ (λ o. absurd (o.0.0.0.0.0.1 refl)) ⨾ plain c 2 refl ⨾ plain c 3 refl ⨾
    (λ o. absurd (o.0.0.0.0.1 refl)) ⨾ (λ o. absurd (o.0.0.0.1 refl)) ⨾ (λ o. absurd (o.0.0.1 refl)) ⨾
    (λ o. absurd (o.0.1 refl)) ⨾ (λ o. absurd (o.1 refl)) ⨾ plain c 9 refl ⨾ plain c 10 refl ⨾ plain c 11 refl ⨾
    plain c 12 refl ⨾ plain c 13 refl ⨾ plain c 14 refl ⨾ plain c 15 refl ⨾ plain c 16 refl ⨾ plain c 17 refl ⨾
    plain c 18 refl ⨾ plain c 19 refl ⨾ plain c 20 refl ⨾ none)
    (λ n h o. get_or-eq_default (0 ∷ 0 ∷ 0 ∷ 0 ∷ 0 ∷ 0 ∷ 0 ∷ 0 ∷ 0 ∷ bytes_of c.registers) 0 h
    ∙ sym (ap (λ (f : ReadRule). (f c).gives) (get_or-eq_default Readers (read_control n) {n = n} (omega arith)) ∙
    get_or-eq_default (control_registers c) 0 {n = n - 5} (omega arith)))

abbrev pub NotMoved : ℕ → Type 0
NotMoved = NoneOf (4 ∷ 1 ∷ 0 ∷ [])

pub kept_others : (c : Chip) (n : ℕ) → NotMoved n → c ≡ read_to max3420e_spi c n
kept_others c =
    rows_all (λ (n : ℕ). NotMoved n → c ≡ read_to max3420e_spi c n) 5
    ((λ o. absurd (o.0.0.1 refl)) ⨾ (λ o. absurd (o.0.1 refl)) ⨾ (λ o. refl) ⨾ (λ o. refl) ⨾
    (λ o. absurd (o.1 refl)) ⨾ none)
    (λ n h o. sym (ap (λ (f : ReadRule). (f c).state) (get_or-eq_default Readers (read_control n) h)))
