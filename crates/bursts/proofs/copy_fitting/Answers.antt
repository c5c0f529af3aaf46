-- The copy stores the bytes that fit, as one by one (`copied`).
use mathlib.Core.Path.{◌≡◌, refl, ap, ◌∙◌}
use mathlib.Core.List.{List}
use Prim.Native.Nat.{ℕ, ◌+◌, ◌-◌, ◌≤◌}
use native.Mathlib.Omega.{arith}
use lib.ListN.{length, take}
use lib.Seq.{length-take-le}
use borrow.Rule.Slice.PartMut.{put_mid}
use Rattle.ring.proofs.Copy.{copied_in}
use Rattle.bursts.specs.Burst.{filling}
use Rattle.bursts.proofs.Copied.{copied}
use Rattle.bursts.proofs.copy_fitting.Goals as goal

pub returns : goal.returns
returns c =
    let a = c.args in
    let fit = c.fitting-stored in
    let n = fit.result in
    let xs = a.buffers.now in
    let place = a.start + a.position in
    let vs = take (n - 0) a.sent.now in
    let whole : n - 0 ≡ n = omega arith in
    let long : length vs ≡ n - 0 = length-take-le (n - 0) a.sent.now (omega (arith, fit.ensures.2)) in
    let within : place + length vs ≤ length xs = omega (arith, fit.ensures.1, c.requires.0, c.requires.2) in
    ap (λ (l : List ℕ). filling (put_mid place (length xs - place) xs l) (a.position + n)) c.copy.ensures.copied
    ∙ ap (λ (l : List ℕ). filling l (a.position + n)) (copied_in xs vs place (length xs) refl within)
    ∙ rw whole (copied a.start a.limit a.position n xs a.sent.now fit.ensures.0)
