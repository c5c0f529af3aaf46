-- The code tests for the refusals in the order of their numbers.
use mathlib.Core.Path.{refl}
use borrow.Author.Tests.{lt-ltb, le-ltb, eq-eqb, ne_eqb}
use Rattle.firmware.specs.Answer.{handled}
use Rattle.firmware.proofs.Laws.{handled_told}
use Rattle.firmware.proofs.answer.Goals as goal

pub returns-then-not-is_sound : goal.returns-then-not-is_sound
unfolding handled
returns-then-not-is_sound c = handled_told _ _ _ (rw (← c.is_sound.ensures, c.if-not-is_sound.true) (c.unchanged.ensures, refl))

pub returns-then-reply-lt64 : goal.returns-then-reply-lt64
unfolding handled
returns-then-reply-lt64 c =
    handled_told _ _ _
    (rw (← c.is_sound.ensures, c.if-not-is_sound.false, lt-ltb _ 64 c.if-reply-lt64.true) (c.unchanged-then-reply-lt64.ensures, refl))

pub returns-then-setup-ne8 : goal.returns-then-setup-ne8
unfolding handled
returns-then-setup-ne8 c =
    handled_told _ _ _
    (rw (← c.is_sound.ensures, c.if-not-is_sound.false, le-ltb _ 64 c.if-reply-lt64.false, ne_eqb _ 8 c.if-setup-ne8.true)
    (c.unchanged-then-setup-ne8.ensures, refl))

pub returns : goal.returns
unfolding handled
returns c =
    handled_told _ _ _
    (rw (
      ← c.is_sound.ensures,
      c.if-not-is_sound.false,
      le-ltb _ 64 c.if-reply-lt64.false,
      eq-eqb _ 8 c.if-setup-ne8.false,
      ← c.parse.ensures,
    )
    c.serve.ensures)
