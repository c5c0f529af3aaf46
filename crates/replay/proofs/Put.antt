-- What is put into a buffer: a result byte by byte, refusal, PID, count, then the bytes; and all that was kept.
use mathlib.Core.Path.{◌≡◌, ap, ap₂, ◌∙◌}
use mathlib.Core.List.{List, ◌++◌}
use Prim.Native.Nat.{ℕ, suc, ◌+◌, ◌≤◌}
use native.Mathlib.Omega.{arith}
use lib.ListN.{length, set, take, drop}
use lib.Seq.{sets, take-append_seam}
use Rattle.model.specs.Reply.{lent}
use Rattle.little_endian.specs.Number.{little_endian}
use Rattle.little_endian.proofs.Put.{put_put, put_first}
use Rattle.replay.specs.Results.{result_with}

pub put_result : (xs ys zs bytes : List ℕ) (place refusal pid : ℕ)
    → ys ≡ sets (set (set xs place refusal) (place + 1) pid) (place + 2) (little_endian 2 (length bytes)) → zs ≡ sets ys (place + 4) bytes
    → zs ≡ sets xs place (result_with refusal pid bytes)
put_result xs ys zs bytes place refusal pid counted ended =
    ended
    ∙ ap (λ (out : List ℕ). sets out (place + 4) bytes) counted
    ∙ ap (λ (n : ℕ). sets (sets (stored (place + 1)) (place + 2) count) n bytes) fourth
    ∙ put_put count bytes (stored (place + 1)) (place + 2)
    ∙ ap₂ (λ (n m : ℕ). sets (stored n) m (count ++ bytes)) second third
  where
    count : List ℕ
    count = little_endian 2 (length bytes)

    stored : ℕ → List ℕ
    stored n = set (set xs place refusal) n pid

    second : place + 1 ≡ suc place
    second = omega arith

    third : place + 2 ≡ suc (suc place)
    third = omega arith

    fourth : place + 4 ≡ place + 2 + length count
    fourth = omega arith

-- bytes that were lent to one buffer, put at the start of another where they fit, are lent to that
pub put_kept : (vs kept zs xs : List ℕ) (n : ℕ) → n ≡ length vs → kept ≡ lent vs zs → length vs ≤ length xs → sets xs 0 (take n kept) ≡ lent vs xs
put_kept vs kept zs xs n size is fits =
    ap (sets xs 0) (ap₂ take size is ∙ take-append_seam vs (drop (length vs) zs)) ∙ put_first vs xs fits
