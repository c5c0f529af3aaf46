-- The body of an event is read as that event in plain form, and a body that has one of the layouts is the body of what it is read as.
use mathlib.Core.Path.{◌≡◌, refl, sym, ap, ap₂, ◌∙◌}
use mathlib.Core.Bool.{Bool, true, false, not, cond, ◌&&◌, ◌||◌, beq}
use mathlib.Core.List.{List, [], ◌∷◌}
use Prim.Native.Nat.{ℕ, zero, suc, ◌+◌, ◌*◌, ◌%◌, ◌≤◌, ◌<◌}
use native.Mathlib.Decide.{dec_lt}
use native.Mathlib.Omega.{arith}
use lib.Dec.{eqb, leb, ltb}
use lib.ListN.{length, get_or, drop_of_length-le}
use borrow.Author.Tests.{eqb-true, leb-true, lt-ltb, le-leb, lt-leb, ne_eqb, not-true}
use Rattle.bits.proofs.Cases.{cond_elim, and_true, or_false, true_is_false, beq_eq}
use Rattle.bits.proofs.Every.{every_at}
use Rattle.model.specs.declared.Event.{Event}
use Rattle.model.specs.Call.{is_setup, is_out, is_in}
use Rattle.event_body.specs.Body.{signal, input_pins, transaction, body_code, body_marks, is_signal, is_signal_body, is_pins_body}
use Rattle.event_body.specs.Body.{is_setup_body, is_out_body, is_in_body, is_event_body, event_of, payload_of, mark, body_of, is_unknown, plain_of}

-- ---- codes

-- a code that isn't one of ours, or that has a longer body: input pins, transactions
abbrev is_other : ℕ → Bool
is_other code = eqb code 0 || ltb 12 code || eqb code 5 || eqb code 10 || eqb code 11 || eqb code 12

-- any other is the whole body
signal_code : (code : ℕ) → is_signal code ≡ not (is_other code)
signal_code code =
    elim (dec_lt code 13) [
      | yes l ↦ beq_eq (is_signal code) (not (is_other code)) (every_at alike 13 refl code l)
      | no g ↦
          let far : 12 < code = omega arith in
          rw (
            le-leb 1 code (omega arith),
            lt-leb code 4 (omega arith),
            le-leb 6 code (omega arith),
            lt-leb code 9 (omega arith),
            ne_eqb code 0 (λ e. omega arith),
            lt-ltb 12 code far,
          )
    ]
  where
    alike : ℕ → Bool
    alike k = beq (is_signal k) (not (is_other k))

-- what is known of a code that is the whole body
pub record Signal (code : ℕ) : Type 0 where
  pub known : (eqb code 0 || ltb 12 code) ≡ false
  pub not5 : eqb code 5 ≡ false
  pub not10 : eqb code 10 ≡ false
  pub not11 : eqb code 11 ≡ false
  pub not12 : eqb code 12 ≡ false

pub signal_facts : (code : ℕ) → is_signal code ≡ true → Signal code
signal_facts code s =
    let d = or_false (eqb code 0 || ltb 12 code || eqb code 5 || eqb code 10 || eqb code 11) (eqb code 12)
    (not-true (is_other code) (sym (signal_code code) ∙ s)) in
    let c = or_false (eqb code 0 || ltb 12 code || eqb code 5 || eqb code 10) (eqb code 11) d.0 in
    let b = or_false (eqb code 0 || ltb 12 code || eqb code 5) (eqb code 10) c.0 in
    let a = or_false (eqb code 0 || ltb 12 code) (eqb code 5) b.0 in
    record { known = a.0; not5 = a.1; not10 = b.1; not11 = c.1; not12 = d.1 }

-- ---- written, then read

-- a body that is only a code
code_read : (code : ℕ) → eqb code 5 ≡ false → eqb code 10 ≡ false → eqb code 11 ≡ false → eqb code 12 ≡ false
    → event_of (code ∷ []) ≡ cond (eqb code 0 || ltb 12 code) (signal 0) (signal code)
unfolding event_of
code_read code a b c d = rw (signal_code code, a, b, c, d) (either (eqb code 0 || ltb 12 code))
  where
    either : (u : Bool)
        → cond (not (u || false || false || false || false) && true) (signal code) (signal 0) ≡ cond u (signal 0) (signal code)
    either true = refl
    either false = refl

-- a transaction's body, with each mark
four : (a b c d : ℕ) (xs : List ℕ) → leb 4 (length (a ∷ b ∷ c ∷ d ∷ xs)) ≡ true
four a b c d xs = le-leb 4 (length (a ∷ b ∷ c ∷ d ∷ xs)) (omega arith)

setup_read_law : (a n : ℕ) (damaged : Bool) (payload : List ℕ)
    → event_of (10 ∷ a ∷ n ∷ mark damaged ∷ payload) ≡ transaction 10 (10 ∷ a ∷ n ∷ []) damaged false false
unfolding event_of
setup_read_law a n true payload = rw (four 10 a n 1 payload)
setup_read_law a n false payload = rw (four 10 a n 0 payload)

out_read : (a n : ℕ) (damaged data1 : Bool) (payload : List ℕ)
    → event_of (11 ∷ a ∷ n ∷ (mark damaged + 2 * mark data1) ∷ payload) ≡ transaction 11 (11 ∷ a ∷ n ∷ []) damaged data1 false
unfolding event_of
out_read a n true true payload = rw (four 11 a n 3 payload)
out_read a n true false payload = rw (four 11 a n 1 payload)
out_read a n false true payload = rw (four 11 a n 2 payload)
out_read a n false false payload = rw (four 11 a n 0 payload)

in_read : (a n : ℕ) (acknowledged : Bool)
    → event_of (12 ∷ a ∷ n ∷ mark acknowledged ∷ []) ≡ transaction 12 (12 ∷ a ∷ n ∷ []) false false acknowledged
unfolding event_of
in_read a n true = refl
in_read a n false = refl

-- any event; a code that isn't one of ours is read as event 0
pub reads_back : (e : Event) (payload : List ℕ) → event_of (body_of e payload) ≡ cond (is_unknown e) (signal 0) (plain_of e)
unfolding event_of body_of
reads_back e payload =
    cond_elim Reads (eqb e.code 5) (λ t. let q : e.code ≡ 5 = eqb-true e.code 5 t in rw q)
    (λ a. cond_elim Reads (is_setup e)
    (λ t. let q : e.code ≡ 10 = eqb-true e.code 10 t in rw q (setup_read_law e.address e.endpoint.0 e.damaged payload))
    (λ b. cond_elim Reads (is_out e)
    (λ t. let q : e.code ≡ 11 = eqb-true e.code 11 t in rw q (out_read e.address e.endpoint.0 e.damaged e.data1 payload))
    (λ c. cond_elim Reads (is_in e)
    (λ t. let q : e.code ≡ 12 = eqb-true e.code 12 t in rw q (in_read e.address e.endpoint.0 e.acknowledged))
    (λ d. code_read e.code a b c d ∙ rw (a, b, c, d)))))
  where
    Reads : List ℕ → Type 0
    Reads xs = event_of xs ≡ cond (is_unknown e) (signal 0) (plain_of e)

-- an event in plain form whose code is one of ours is read back
pub reads_same : (e : Event) (payload : List ℕ) → plain_of e ≡ e → is_unknown e ≡ false → event_of (body_of e payload) ≡ e
reads_same e payload plain known = reads_back e payload ∙ ap (λ (t : Bool). cond t (signal 0) (plain_of e)) known ∙ plain

-- SETUP and OUT have a payload
pub payload_back : (e : Event) (payload : List ℕ) → payload_of (body_of e payload) ≡ cond (is_setup e || is_out e) payload []
unfolding body_of
payload_back e payload =
    cond_elim Has (eqb e.code 5) (λ t. let q : e.code ≡ 5 = eqb-true e.code 5 t in rw q)
    (λ a. cond_elim Has (is_setup e) (λ t. rw t)
    (λ b. cond_elim Has (is_out e) (λ t. rw (b, t)) (λ c. cond_elim Has (is_in e) (λ t. rw (b, c)) (λ d. rw (b, c)))))
  where
    Has : List ℕ → Type 0
    Has xs = payload_of xs ≡ cond (is_setup e || is_out e) payload []

-- ---- read, then written

mark_of : (m : ℕ) → m ≤ 1 → mark (eqb m 1) ≡ m
mark_of zero h = refl
mark_of (suc zero) h = refl
mark_of (suc (suc m)) h = absurd (omega arith)

marks_of : (m : ℕ) → m ≤ 3 → mark (eqb (m % 2) 1) + 2 * mark (leb 2 m) ≡ m
marks_of zero h = refl
marks_of (suc zero) h = refl
marks_of (suc (suc zero)) h = refl
marks_of (suc (suc (suc zero))) h = refl
marks_of (suc (suc (suc (suc m)))) h = absurd (omega arith)

-- each layout: the body of what it is read as
signal_row : (xs : List ℕ) → is_signal_body xs ≡ true → body_of (signal (body_code xs)) (payload_of xs) ≡ xs
unfolding body_of
signal_row [] t = true_is_false (sym t)
signal_row (c ∷ []) t =
    let s = signal_facts c (and_true (is_signal c) true t).0 in
    rw (s.not5, s.not10, s.not11, s.not12)
signal_row (c ∷ d ∷ xs) t =
    let n = length (c ∷ d ∷ xs) in
    let l : n ≡ 1 = eqb-true n 1 (and_true (is_signal c) (eqb n 1) t).1 in
    absurd (omega arith)

pins_row : (xs : List ℕ) → is_pins_body xs ≡ true → body_of (input_pins (get_or xs 1 0)) (payload_of xs) ≡ xs
unfolding body_of
pins_row [] t = true_is_false (sym t)
pins_row (c ∷ []) t = true_is_false (sym (and_true (eqb c 5) false t).1)
pins_row (c ∷ p ∷ []) t = ap (λ (k : ℕ). k ∷ p ∷ []) (sym (eqb-true c 5 (and_true (eqb c 5) true t).0))
pins_row (c ∷ p ∷ d ∷ xs) t =
    let n = length (c ∷ p ∷ d ∷ xs) in
    let l : n ≡ 2 = eqb-true n 2 (and_true (eqb c 5) (eqb n 2) t).1 in
    absurd (omega arith)

-- a transaction's: the four bytes and what follows
four_row : (code marks : ℕ) (xs : List ℕ) → body_code xs ≡ code → 4 ≤ length xs → marks ≡ body_marks xs
    → code ∷ get_or xs 1 0 ∷ get_or xs 2 0 ∷ marks ∷ payload_of xs ≡ xs
four_row code marks [] e h f = absurd (omega arith)
four_row code marks (c ∷ []) e h f = absurd (omega arith)
four_row code marks (c ∷ a ∷ []) e h f = absurd (omega arith)
four_row code marks (c ∷ a ∷ n ∷ []) e h f = absurd (omega arith)
four_row code marks (c ∷ a ∷ n ∷ m ∷ vs) e h f = ap₂ (λ (x y : ℕ). x ∷ a ∷ n ∷ y ∷ vs) (sym e) f

-- the tests of its layout
three : (a b c : Bool) → (a && b && c) ≡ true → (a ≡ true) × (b ≡ true) × (c ≡ true)
three a b c t = let p = and_true (a && b) c t in let q = and_true a b p.0 in (q.0, q.1, p.1)

setup_row : (xs : List ℕ) → is_setup_body xs ≡ true
    → body_of (transaction 10 xs (eqb (body_marks xs) 1) false false) (payload_of xs) ≡ xs
unfolding body_of
setup_row xs t =
    let h = three (eqb (body_code xs) 10) (leb 4 (length xs)) (leb (body_marks xs) 1) t in
    four_row 10 (mark (eqb (body_marks xs) 1)) xs (eqb-true (body_code xs) 10 h.0) (leb-true 4 (length xs) h.1)
    (mark_of (body_marks xs) (leb-true (body_marks xs) 1 h.2))

out_row : (xs : List ℕ) → is_out_body xs ≡ true
    → body_of (transaction 11 xs (eqb (body_marks xs % 2) 1) (leb 2 (body_marks xs)) false) (payload_of xs) ≡ xs
unfolding body_of
out_row xs t =
    let h = three (eqb (body_code xs) 11) (leb 4 (length xs)) (leb (body_marks xs) 3) t in
    four_row 11 (mark (eqb (body_marks xs % 2) 1) + 2 * mark (leb 2 (body_marks xs))) xs (eqb-true (body_code xs) 11 h.0)
    (leb-true 4 (length xs) h.1) (marks_of (body_marks xs) (leb-true (body_marks xs) 3 h.2))

in_row : (xs : List ℕ) → is_in_body xs ≡ true → body_of (transaction 12 xs false false (eqb (body_marks xs) 1)) (payload_of xs) ≡ xs
unfolding body_of
in_row xs t =
    let h = three (eqb (body_code xs) 12) (eqb (length xs) 4) (leb (body_marks xs) 1) t in
    let l : length xs ≡ 4 = eqb-true (length xs) 4 h.1 in
    let m = mark (eqb (body_marks xs) 1) in
    ap (λ (vs : List ℕ). 12 ∷ get_or xs 1 0 ∷ get_or xs 2 0 ∷ m ∷ vs) (sym (drop_of_length-le xs {i = 4} (omega arith)))
    ∙ four_row 12 m xs (eqb-true (body_code xs) 12 h.0) (omega arith) (mark_of (body_marks xs) (leb-true (body_marks xs) 1 h.2))

-- a body that has a layout is the body of its event, with its payload
pub writes_back : (xs : List ℕ) → is_event_body xs ≡ true → body_of (event_of xs) (payload_of xs) ≡ xs
unfolding event_of
writes_back xs fits =
    cond_elim Writes (is_signal_body xs) (signal_row xs)
    (λ a. cond_elim Writes (is_pins_body xs) (pins_row xs)
    (λ b. cond_elim Writes (is_setup_body xs) (setup_row xs)
    (λ c. cond_elim Writes (is_out_body xs) (out_row xs)
    (λ d. cond_elim Writes (is_in_body xs) (in_row xs) (λ e. true_is_false (sym (rw (a, b, c, d, e) at fits)))))))
  where
    Writes : Event → Type 0
    Writes x = body_of x (payload_of xs) ≡ xs
