-- A sound record does not refuse a transfer of 1 to 4,096 bytes that is lent as many; and what the shortest ones do.
use Rattle.std.specs.Prelude.{Ok}
use mathlib.Core.Path.{◌≡◌, sym, ap, ◌∙◌}
use mathlib.Core.Bool.{Bool, true}
use mathlib.Core.List.{List, [], ◌∷◌, ◌++◌}
use Prim.Native.Nat.{ℕ, ◌≤◌, ◌<◌}
use native.Mathlib.Omega.{arith}
use lib.ListN.{length, drop}
use borrow.Author.Tests.{ne_eqb, le-ltb}
use Rattle.refusal.specs.Check.{Checked}
use Rattle.chip.specs.declared.Chip.{Chip}
use Rattle.chip.specs.Sound.{sound_chip}
use Rattle.model.specs.Spi.{command_register, command_writes, command_to, write_to, burst_to, burst_of, transfer_to}
use Rattle.model.specs.Call.{checked, checked_to, checked_answer, call_to, answer_of, buffer_after}
use Rattle.model.proofs.Loop.{burst_length}
use Rattle.rules.specs.Spi.{max3420e_spi}
use Rattle.rules.specs.Event.{max3420e}
use Rattle.step_transfers.specs.Step.{sends}

module _ (c : Chip) (sound : sound_chip c ≡ true) where
  pub sends_accepted : (bs : List ℕ) → 0 < length bs → length bs ≤ 4096 → checked max3420e c (sends bs) ≡ (Ok tt)
  sends_accepted bs some few =
      rw (sound, ne_eqb (length bs) 0 (λ e. omega arith), le-ltb 4096 (length bs) few, le-ltb (length bs) (length bs) (omega arith))

  pub sends_to : (bs : List ℕ) → 0 < length bs → length bs ≤ 4096 → call_to max3420e c (sends bs) ≡ transfer_to max3420e_spi c bs
  unfolding call_to
  sends_to bs some few = ap (checked_to max3420e c (sends bs)) (sends_accepted bs some few)

  -- the lent buffer behind reply byte 0
  pub sends_reply : (m y : ℕ) (bs ys : List ℕ) → length bs < 4096
      → burst_of max3420e_spi (command_to max3420e_spi c m) (command_writes m) (command_register m) bs ++ drop (length bs) ys
      ≡ drop 1 (buffer_after (answer_of max3420e c (sends (m ∷ bs))) (y ∷ ys))
  unfolding answer_of
  sends_reply m y bs ys few =
      let vs = burst_of max3420e_spi (command_to max3420e_spi c m) (command_writes m) (command_register m) bs in
      ap (λ (n : ℕ). vs ++ drop n ys) (sym (burst_length max3420e_spi (command_writes m) bs (command_to max3420e_spi c m) (command_register m)))
      ∙ ap (λ (v : Checked). drop 1 (buffer_after (checked_answer max3420e c (sends (m ∷ bs)) v) (y ∷ ys)))
      (sym (sends_accepted (m ∷ bs) (omega arith) (omega arith)))

  -- a command byte alone
  pub sends_command : (m : ℕ) → command_to max3420e_spi c m ≡ call_to max3420e c (sends (m ∷ []))
  unfolding burst_to
  sends_command m = sym (sends_to (m ∷ []) (omega arith) (omega arith))

  -- a command byte that writes, and one data byte
  pub sends_write : (m b : ℕ) → command_writes m ≡ true
      → write_to max3420e_spi (command_to max3420e_spi c m) (command_register m) b ≡ call_to max3420e c (sends (m ∷ b ∷ []))
  unfolding burst_to
  sends_write m b writes =
      ap (λ (w : Bool). burst_to max3420e_spi (command_to max3420e_spi c m) w (command_register m) (b ∷ [])) (sym writes)
      ∙ sym (sends_to (m ∷ b ∷ []) (omega arith) (omega arith))
