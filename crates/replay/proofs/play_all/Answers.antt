-- Entry by entry (`turned`), from `start` to the last. What is still to be written fits, since all of it does.
use Rattle.std.proofs.Common.{◌≡◌, List, drop, sym, subst, ap₂, refl, arith}
use lib.ListN.{length-take}
use Rattle.chip.specs.declared.Chip.{Chip}
use Rattle.lesson.specs.Lesson.{LessonEntry}
use Rattle.lesson.specs.Kind.{entry_told}
use Rattle.replay.proofs.Turn.{Turn, start, last_chip, last_size, last_written}
use Rattle.replay.proofs.Entries.{few, part, turned}
use Rattle.replay.proofs.play_all.Goals as goal

-- before the first entry
pub loop-entry-init : goal.loop-entry-init
loop-entry-init c =
    let l = c.args.lesson.now in
    let out = c.args.output.now in
    let it = c.into_iter-entry-iterator.result in
    let place : it.next ≡ 0 = cc (c.into_iter-entry-iterator.ensures.into_iter_gives, c.entries-entry-items.ensures.1) in
    let same : it.lesson.now ≡ l = cc (c.into_iter-entry-iterator.ensures.into_iter_gives, c.entries-entry-items.ensures.0) in
    let rest : drop it.next it.lesson.now ≡ l = ap₂ drop place same in (
      subst (λ (es : List LessonEntry). Turn l es c.power_on.result 0 out out) (sym rest)
          (subst (λ (d : Chip). Turn l l d 0 out out) (sym c.power_on.ensures) (start l out)),
      refl,
    )

-- its reply is in the scratch buffer
pub slice_bounds-reply-end : goal.slice_bounds-reply-end
slice_bounds-reply-end c =
    let e = entry_told c.in-Some.entry in
    let most = few c.loop-entry.run.chip e.kind e.body c.loop-entry.reply c.play-answer.new.reply c.play-answer.result
    c.loop-entry.invariant.1 c.play-answer.ensures.0 in
    omega (arith, most, c.loop-entry.invariant.1, c.play-answer.auto.reply)

pub slice_bounds-put_result-end : goal.slice_bounds-put_result-end
slice_bounds-put_result-end c =
    let e = entry_told c.in-Some.entry in
    let most = few c.loop-entry.run.chip e.kind e.body c.loop-entry.reply c.play-answer.new.reply c.play-answer.result
    c.loop-entry.invariant.1 c.play-answer.ensures.0 in
    omega (
      arith,
      length-take c.play-answer.result.count c.play-answer.new.reply,
      most,
      c.loop-entry.invariant.1,
      c.play-answer.auto.reply,
    )

-- its result fits
pub put_result-requires : goal.put_result-requires
put_result-requires c =
    let l = c.args.lesson.now in
    let t = c.next.new.self in
    let e = entry_told c.in-Some.entry in
    let run = c.loop-entry.run in
    let out = c.args.output.now in
    let most = few run.chip e.kind e.body c.loop-entry.reply c.play-answer.new.reply c.play-answer.result
    c.loop-entry.invariant.1 c.play-answer.ensures.0 in
    let taken = length-take c.play-answer.result.count c.play-answer.new.reply in
    let here = subst (λ (es : List LessonEntry). Turn l es run.chip run.size c.loop-entry.output out) c.in-Some.ensures.steps c.loop-entry.invariant.0 in
    let within = part l (drop t.next t.lesson.now) e run.chip run.size c.loop-entry.output out here c.loop-entry.reply
    c.play-answer.new.reply c.play-answer.result c.loop-entry.invariant.1 c.play-answer.ensures.0 in (
      omega (arith, within, taken, c.requires, c.loop-entry.invariant.0.sized),
      omega (arith, taken, most),
    )

-- the next turn
pub loop-entry-preserved : goal.loop-entry-preserved
loop-entry-preserved c =
    let l = c.args.lesson.now in
    let t = c.next.new.self in
    let e = entry_told c.in-Some.entry in
    let run = c.loop-entry.run in
    let out = c.args.output.now in
    let here = subst (λ (es : List LessonEntry). Turn l es run.chip run.size c.loop-entry.output out) c.in-Some.ensures.steps c.loop-entry.invariant.0 in (
      turned l (drop t.next t.lesson.now) e run.chip run.size c.loop-entry.output out here c.loop-entry.reply
          c.play-answer.new.reply c.play-answer.result c.loop-entry.invariant.1 c.play-answer.ensures.0 c.put_result.new.output
          c.play-answer.ensures.1 c.put_result.ensures,
      omega (arith, c.loop-entry.invariant.1, c.play-answer.auto.reply),
    )

-- after the last
pub returns : goal.returns
returns c =
    let l = c.args.lesson.now in
    let run = c.loop-entry.run in
    let out = c.args.output.now in
    let end = subst (λ (es : List LessonEntry). Turn l es run.chip run.size c.loop-entry.output out) c.in-None.ensures.steps.0 c.loop-entry.invariant.0 in (
      last_chip l run.chip run.size c.loop-entry.output out end,
      last_size l run.chip run.size c.loop-entry.output out end,
      last_written l run.chip run.size c.loop-entry.output out end c.requires,
    )
