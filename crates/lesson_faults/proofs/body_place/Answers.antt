-- The offset is `offset_at`, whose next value is the row's length more.
use Rattle.std.proofs.Common.{rules, ◌≡◌, ℕ, ◌+◌, ◌*◌, List, get_or, drop, refl, sym, ap, ◌∙◌, add-one, drop-drop}
use Rattle.little_endian.specs.Number.{from_little_endian}
use Rattle.lesson.specs.Lesson.{table_end}
use Rattle.lesson.specs.Read.{offset_at}
use Rattle.lesson_faults.proofs.body_place.Goals as goal

first : (f : List ℕ) → table_end (get_or f 1 0) ≡ offset_at f 0
unfolding offset_at
first f = refl

next : (f : List ℕ) (i : ℕ) → offset_at f i + from_little_endian 2 (drop (2 + 11 * i + 9) f) ≡ offset_at f (i + 1)
unfolding offset_at
next f i =
    ap (λ (xs : List ℕ). offset_at f i + from_little_endian 2 xs) (sym (drop-drop 9 (2 + 11 * i) f)) ∙ ap (offset_at f) (sym (add-one i))

pub loop-i-init : goal.loop-i-init
loop-i-init c = (search rules, first c.args.file.now)

pub loop-i-preserved : goal.loop-i-preserved
loop-i-preserved c =
    let f : List ℕ = c.args.file.now in
    let l = c.loop-i in
    (search rules, rw (l.invariant.1, c.read_u16.ensures) (next f l.i))
