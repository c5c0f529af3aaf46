-- A run of calls, then another, is the run of both; and how long the answer and the lent buffer of a transfer are.
use Rattle.std.specs.Prelude.{Ok, Err}
use mathlib.Core.Path.{◌≡◌, refl, ap, ◌∙◌}
use mathlib.Core.List.{List, [], ◌∷◌, ◌++◌}
use Prim.Native.Nat.{ℕ, suc}
use native.Mathlib.Omega.{arith}
use lib.ListN.{length, drop, length-append, length-drop}
use Rattle.refusal.specs.Check.{Checked}
use Rattle.model.specs.Spi.{Spi, transfer_of, command_to, command_writes, command_register}
use Rattle.model.specs.Call.{Call, transfer, Model, checked_answer, answer_of, buffer_after, checked, call_to, run_to}
use Rattle.model.proofs.Loop.{burst_length}

pub run_append : {R : Type 0} (m : Model R) (c : R) (ks js : List Call) → run_to m c (ks ++ js) ≡ run_to m (run_to m c ks) js
unfolding run_to
run_append m c [] js = refl
run_append m c (k ∷ ks) js = run_append m (call_to m c k) ks js

-- the reply is as long as the transfer
pub transfer_length : {R : Type 0} (f : Spi R) (c : R) (bs : List ℕ) → length (transfer_of f c bs) ≡ length bs
transfer_length f c [] = refl
transfer_length f c (b ∷ bs) = ap suc (burst_length f (command_writes b) bs (command_to f c b) (command_register b))

checked_buffer : {R : Type 0} (m : Model R) (c : R) (bs buffer : List ℕ) (v : Checked) → length bs ≡ length buffer
    → length (buffer_after (checked_answer m c (transfer bs (length buffer)) v) buffer) ≡ length buffer
checked_buffer m c bs buffer (Ok tt) e =
    let n = transfer_length m.spi c bs in
    length-append (transfer_of m.spi c bs) (drop (length (transfer_of m.spi c bs)) buffer)
    ∙ omega (arith, length-drop (length (transfer_of m.spi c bs)) buffer, n)
checked_buffer m c bs buffer (Err r) e = refl

-- a buffer as long as the transfer keeps its length
pub transfer_buffer : {R : Type 0} (m : Model R) (c : R) (bs buffer : List ℕ) → length bs ≡ length buffer
    → length (buffer_after (answer_of m c (transfer bs (length buffer))) buffer) ≡ length buffer
unfolding answer_of
transfer_buffer m c bs buffer e = checked_buffer m c bs buffer (checked m c (transfer bs (length buffer))) e
