-- The setup bytes by R4, the firmware's answer to them, and the transfers that serve it.
use mathlib.Core.Path.{◌≡◌, sym, ap, ap₂, ◌∙◌, subst}
use mathlib.Core.List.{List, [], ◌∷◌}
use Prim.Native.Nat.{ℕ, ◌≤◌}
use native.Mathlib.Omega.{arith}
use lib.ListN.{replicate}
use Rattle.chip.specs.declared.Chip.{Chip}
use Rattle.chip.specs.Sound.{sound_chip}
use Rattle.firmware.specs.declared.RequestAnswer.{RequestAnswer}
use Rattle.firmware.specs.Answer.{handled, request_count}
use Rattle.firmware.proofs.Laws.{answer_fits}
use Rattle.model.specs.Call.{Call, run_to}
use Rattle.rules.specs.Event.{max3420e}
use Rattle.rules.proofs.Sound.{stays_sound}
use Rattle.step_transfers.specs.Step.{clears_sudav, reads_setup, setup_read, serves}
use Rattle.step_transfers.proofs.Setup.{setup_length, part_is, handled_lent, serves_lent}
use borrow.Author.Rules.{rules}
use Rattle.board.proofs.serve.Goals as goal

pub serve_reply-chip-requires : goal.serve_reply-chip-requires
unfolding run_to
serve_reply-chip-requires c =
    let kept = stays_sound c.args.board.chip c.well_formed.0.1.1.0 c.requires.0 (clears_sudav ∷ reads_setup ∷ []) in (
      ap sound_chip c.read_setup-read.ensures.0 ∙ kept,
      subst (λ (a : RequestAnswer). request_count a.reply ≤ 64) (sym c.answer-answer.ensures.0) (answer_fits _ _ _),
      search rules,
    )

pub returns : goal.returns
unfolding run_to
returns c =
    let b = c.args.board in
    let lent = c.args.reply.now in
    let read = c.read_setup-read in
    let ans = c.answer-answer in
    let setup = part_is b.chip read.result.reply read.ensures.1 in
    let same : ans.result ≡ (handled (setup_read b.chip) b.firmware lent).answer =
    ans.ensures.0 ∙ ap (λ (s : List ℕ). (handled s b.firmware lent).answer) setup in
    let bytes : ans.new.reply ≡ (handled (setup_read b.chip) b.firmware lent).buffer =
    ans.ensures.1 ∙ ap (λ (s : List ℕ). (handled s b.firmware lent).buffer) setup in
    let any = handled_lent (setup_read b.chip) b.firmware lent (replicate 64 0) (setup_length b.chip) c.requires.1 c.requires.2
    (omega arith) in (
      c.serve_reply-chip.ensures
          ∙ ap₂ (λ (x : Chip) (ks : List Call). run_to max3420e x ks) read.ensures.0
          (ap₂ (λ (a : RequestAnswer) (vs : List ℕ). serves a.reply a.endpoints vs b.chip.registers.epstalls
          b.chip.registers.clrtogs) same bytes
          ∙ serves_lent (setup_read b.chip) b.firmware lent (replicate 64 0) _ _ (setup_length b.chip) c.requires.1 c.requires.2
          (omega arith)),
      ap (λ (a : RequestAnswer). a.firmware) (same ∙ any),
      ap (λ (a : RequestAnswer). a.reply) (same ∙ any),
      bytes,
    )
