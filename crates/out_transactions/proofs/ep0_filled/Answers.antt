-- The copy into the array is the definition's run of stores.
use Rattle.std.proofs.Common.{◌≡◌, length, rules}
use Rattle.out_transactions.proofs.Copy.{copied_front}
use Rattle.out_transactions.proofs.ep0_filled.Goals as goal

pub returns : goal.returns
returns c =
    let vs = c.payload.inside.bytes.now in
    let bytes = c.args.e.bytes in
    let long : length bytes ≡ 64 = search rules in
    rw (
      ← c.payload.view_is,
      c.flipped.ensures,
      c.copy-count.ensures.count,
      c.copy-count.ensures.copied,
      copied_front vs bytes (rw long c.payload.invariant),
    )
