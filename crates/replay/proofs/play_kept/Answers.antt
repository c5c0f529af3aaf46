-- What was kept is put where it fits (`put_kept`).
use Rattle.std.proofs.Common.{◌≤◌, length, ◌∙◌, arith}
use Rattle.replay.specs.Replay.{played_bytes}
use Rattle.replay.proofs.Put.{put_kept}
use Rattle.replay.proofs.Call.{played_answer}
use Rattle.replay.proofs.play_kept.Goals as goal

pub returns : goal.returns
returns c =
    let l = c.args.lesson.now in
    let out = c.args.output.now in
    let run = c.play_all-run in
    let fits : length (played_bytes l) ≤ length out = omega (arith, c.if-output-size.false, run.ensures.1) in
    let put = c.put_bytes.ensures ∙ put_kept (played_bytes l) _ _ out _ run.ensures.1 run.ensures.2 fits in
    let answer = played_answer l out _ _ _ fits run.ensures.0 run.ensures.1 put in
    (c.answer_with-2.ensures ∙ answer.0, answer.1)
