-- From a row to a byte, a transfer, a call and a list of calls: where every row of a model and of a book keeps a relation between
-- the two, so does every run that breaks no condition. For any state, any book, any relation and any condition.
use Rattle.std.specs.Prelude.{Ok, Err}
use mathlib.Core.Path.{◌≡◌, refl, ap, ◌∙◌, subst}
use mathlib.Core.Bool.{Bool, true, false, cond, ◌||◌}
use mathlib.Core.List.{List, [], ◌∷◌}
use Prim.Native.Nat.{ℕ, ◌≤◌}
use native.Mathlib.Omega.{arith}
use lib.ListN.{length}
use Rattle.bits.proofs.Cases.{cond_elim, or_false}
use Rattle.refusal.specs.declared.Refusal.{Refusal}
use Rattle.refusal.specs.Check.{Checked}
use Rattle.model.specs.declared.Event.{Event}
use Rattle.model.specs.Reply.{Outcome, Reply}
use Rattle.model.specs.Spi.{command_register, command_writes, command_acknowledges, read_to, burst_to, command_to, transfer_to}
use Rattle.model.specs.Call.{Call, transfer, event, refused, Model, accepted_outcome, checked, checked_to, checked_answer}
use Rattle.model.specs.Call.{call_to, answer_of, run_to, history}
use Rattle.model.specs.Book.{Book, note_burst, note_transfer, note_accepted, note, book_of}
use Rattle.model.specs.Condition.{Condition, always, breaks_burst, breaks_transfer, breaks_accepted, breaks_checked, breaks_call}
use Rattle.model.specs.Condition.{breaks_run}
use Rattle.model.proofs.Refusals.{short_out}

-- ---- rows

module _ {R B : Type 0} (I : B → R → Type 0) where
  -- a byte written, where t tells whether it breaks the condition
  abbrev pub KeepsWrite : (R → ℕ → Bool) → (R → ℕ → R) → (B → ℕ → B) → Type 0
  KeepsWrite t h k = (l : B) (c : R) (b : ℕ) → t c b ≡ false → I l c → I (k l b) (h c b)

  -- a read, of which a book notes nothing
  abbrev pub KeepsRead : (R → Outcome R ℕ) → Type 0
  KeepsRead h = (l : B) (c : R) → I l c → I l (h c).state

  -- an event of code n, whose payload is short where it is an OUT
  abbrev pub KeepsEvent : ℕ → (R → Event → Bool) → (R → Event → List ℕ → Outcome R Reply) → (B → Event → List ℕ → Reply → B) → Type 0
  KeepsEvent n t h k =
      (l : B) (c : R) (e : Event) (vs : List ℕ) → e.code ≡ n → (n ≡ 11 → length vs ≤ 64) → t c e ≡ false → I l c
      → I (k l e vs (h c e vs).gives) (h c e vs).state

-- every row of a model and of a book keeps the relation
pub record Keeps {R B : Type 0} (m : Model R) (q : Book B) (s : Condition R) (I : B → R → Type 0) : Type 0 where
  pub writes : (n : ℕ) → KeepsWrite I (λ (c : R) (b : ℕ). s.write c n b) (m.spi.write n) (q.write n)
  pub reads : (n : ℕ) → KeepsRead I (m.spi.read n)
  pub steps : (n : ℕ) → m.spi.step n ≡ q.step n
  pub acknowledges : (l : B) (c : R) → I l c → I l (m.spi.acknowledge c)
  pub events : (n : ℕ) → KeepsEvent I n s.event (m.bus n) (q.event n)

-- ---- a transfer

module _ {R B : Type 0} {m : Model R} {q : Book B} {s : Condition R} {I : B → R → Type 0} (w : Keeps m q s I) where
  writes_keep : (bs : List ℕ) (n : ℕ) (l : B) (c : R) → breaks_burst m s c n bs ≡ false → I l c → I (note_burst q l n bs)
      (burst_to m.spi c true n bs)
  unfolding note_burst burst_to breaks_burst
  writes_keep [] n l c h i = i
  writes_keep (b ∷ bs) n l c h i =
      let l' : B = q.write n l b in
      let c' : R = m.spi.write n c b in
      let both = or_false (s.write c n b) (breaks_burst m s c' (m.spi.step n) bs) h in
      subst (λ (k : ℕ). I (note_burst q l' k bs) (burst_to m.spi c' true (m.spi.step n) bs)) (w.steps n)
      (writes_keep bs (m.spi.step n) l' c' both.1 (w.writes n l c b both.0 i))

  reads_keep : (bs : List ℕ) (n : ℕ) (l : B) (c : R) → I l c → I l (burst_to m.spi c false n bs)
  unfolding burst_to
  reads_keep [] n l c i = i
  reads_keep (b ∷ bs) n l c i = reads_keep bs (m.spi.step n) l (read_to m.spi c n) (w.reads n l c i)

  command_keeps : (k : ℕ) (l : B) (c : R) → I l c → I l (command_to m.spi c k)
  command_keeps k l c i = cond_elim (I l) (command_acknowledges k) (λ _. w.acknowledges l c i) (λ _. i)

  burst_keeps : (t : Bool) (bs : List ℕ) (n : ℕ) (l : B) (c : R) → cond t (breaks_burst m s c n bs) false ≡ false → I l c
      → I (cond t (note_burst q l n bs) l) (burst_to m.spi c t n bs)
  burst_keeps true bs n l c h i = writes_keep bs n l c h i
  burst_keeps false bs n l c h i = reads_keep bs n l c i

  transfer_keeps : (bs : List ℕ) (l : B) (c : R) → breaks_transfer m s c bs ≡ false → I l c → I (note_transfer q l bs)
      (transfer_to m.spi c bs)
  transfer_keeps [] l c h i = i
  transfer_keeps (k ∷ bs) l c h i = burst_keeps (command_writes k) bs (command_register k) l (command_to m.spi c k) h
      (command_keeps k l c i)

  -- ---- a call

  accepted_keeps : (k : Call) (l : B) (c : R) → checked m c k ≡ (Ok tt) → breaks_accepted m s c k ≡ false → I l c
      → I (note_accepted q l k (accepted_outcome m c k).gives) (accepted_outcome m c k).state
  accepted_keeps (transfer bytes room) l c accepted h i = transfer_keeps bytes l c h i
  accepted_keeps (event e payload room) l c accepted h i =
      w.events e.code l c e payload refl
      (short_out (m.sound c) e (length payload) room (m.further c (event e payload room)) accepted) h i

  checked_keeps : (k : Call) (l : B) (c : R) (v : Checked) → checked m c k ≡ v → breaks_checked m s c k v ≡ false → I l c
      → I (note q l k (checked_answer m c k v)) (checked_to m c k v)
  unfolding note
  checked_keeps k l c (Ok tt) e h i = accepted_keeps k l c e h i
  checked_keeps k l c (Err r) e h i = i

  pub call_keeps : (k : Call) (l : B) (c : R) → breaks_call m s c k ≡ false → I l c → I (note q l k (answer_of m c k)) (call_to m c k)
  unfolding answer_of call_to breaks_call
  call_keeps k l c h i = checked_keeps k l c (checked m c k) refl h i

  -- ---- every list of calls

  pub run_keeps : (ks : List Call) (l : B) (c : R) → breaks_run m s c ks ≡ false → I l c → I (book_of q l (history m c ks)) (run_to m c ks)
  unfolding book_of history run_to breaks_run
  run_keeps [] l c h i = i
  run_keeps (k ∷ ks) l c h i =
      let both = or_false (breaks_call m s c k) (breaks_run m s (call_to m c k) ks) h in
      run_keeps ks (note q l k (answer_of m c k)) (call_to m c k) both.1 (call_keeps k l c both.0 i)

-- ---- no call breaks the condition that always holds

module _ {R : Type 0} (m : Model R) where
  burst_always : (bs : List ℕ) (c : R) (n : ℕ) → breaks_burst m always c n bs ≡ false
  unfolding breaks_burst
  burst_always [] c n = refl
  burst_always (b ∷ bs) c n = burst_always bs (m.spi.write n c b) (m.spi.step n)

  transfer_always : (bs : List ℕ) (c : R) → breaks_transfer m always c bs ≡ false
  transfer_always [] c = refl
  transfer_always (k ∷ bs) c =
      cond_elim (λ (t : Bool). t ≡ false) (command_writes k) (λ _. burst_always bs (command_to m.spi c k) (command_register k)) (λ _. refl)

  checked_always : (k : Call) (c : R) (v : Checked) → breaks_checked m always c k v ≡ false
  checked_always (transfer bytes room) c (Ok tt) = transfer_always bytes c
  checked_always (event e payload room) c (Ok tt) = refl
  checked_always k c (Err r) = refl

  pub call_always : (k : Call) (c : R) → breaks_call m always c k ≡ false
  unfolding breaks_call
  call_always k c = checked_always k c (checked m c k)

  pub run_always : (ks : List Call) (c : R) → breaks_run m always c ks ≡ false
  unfolding breaks_run
  run_always [] c = refl
  run_always (k ∷ ks) c = ap (λ (t : Bool). t || breaks_run m always (call_to m c k) ks) (call_always k c) ∙ run_always ks (call_to m c k)

-- ---- a refused call changes neither state nor book

refused_only : {R B : Type 0} (m : Model R) (q : Book B) (l : B) (c : R) (k : Call) (r : Refusal) (v : Checked) → checked_answer m c k v
    ≡ refused r
    → (checked_to m c k v ≡ c) × (note q l k (checked_answer m c k v) ≡ l) × (v ≡ Err r)
unfolding note
refused_only m q l c k r (Ok tt) e = let z : ◌≡◌ {A = ℕ} 0 1 = cc in absurd (omega arith)
refused_only m q l c k r (Err t) e = (refl, refl, cc)

pub refused_keeps : {R B : Type 0} (m : Model R) (q : Book B) (l : B) (c : R) (k : Call) (r : Refusal) → answer_of m c k ≡ refused r
    → (call_to m c k ≡ c) × (note q l k (answer_of m c k) ≡ l) × (checked m c k ≡ Err r)
unfolding answer_of call_to
refused_keeps m q l c k r e = refused_only m q l c k r (checked m c k) e
