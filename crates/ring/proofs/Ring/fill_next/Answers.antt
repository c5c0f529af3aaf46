-- The copy into the array is the definition's run of stores.
use mathlib.Core.Path.{◌≡◌, ◌∙◌, ap, ap₂}
use mathlib.Core.List.{List}
use Prim.Native.Nat.{ℕ, ◌+◌, ◌-◌, ◌*◌, ◌≤◌}
use native.Mathlib.Omega.{arith}
use lib.Seq.{sets}
use lib.ListN.{length}
use borrow.Rule.Slice.PartMut.{put_mid}
use borrow.Author.Rules.{rules}
use Rattle.ring.specs.Ring.{arm_next, with_bytes}
use Rattle.ring.proofs.Copy.{copied_in}
use Rattle.ring.proofs.Ring.fill_next.Goals as goal

pub returns : goal.returns
returns c =
    let vs = c.args.payload.now in
    let start = c.next_buffer-start.result * 64 in
    let long : length c.args.self.bytes ≡ 128 = search rules in
    let fits : start + length vs ≤ 128 = omega arith in
    let bytes = ap (put_mid start (128 - start) c.args.self.bytes) c.copy-count.ensures.copied
    ∙ copied_in c.args.self.bytes vs start 128 long fits
    ∙ ap (λ (k : ℕ). sets c.args.self.bytes (k * 64) vs) c.next_buffer-start.ensures.0 in
    c.arm_next.ensures ∙ ap₂ (λ (s : List ℕ) (n : ℕ). arm_next 2 (with_bytes c.args.self s) n) bytes c.copy-count.ensures.count
