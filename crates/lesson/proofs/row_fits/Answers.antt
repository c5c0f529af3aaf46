-- The two tests are those of the row that stands at the place (`fits_at`).
use Rattle.std.proofs.Common.{ℕ, Bool, ◌&&◌, eqb, ◌∙◌, ap₂}
use Rattle.lesson.proofs.Turn.{fits_at}
use Rattle.lesson.proofs.row_fits.Goals as goal

pub returns-then-is_kind : goal.returns-then-is_kind
returns-then-is_kind c =
    ap₂ (λ (k : Bool) (n : ℕ). k && eqb n c.args.offset) c.if-is_kind.ensures c.read_u32-found.ensures
    ∙ fits_at c.args.file.now c.args.place c.args.offset

pub returns-else-is_kind : goal.returns-else-is_kind
returns-else-is_kind c =
    c.if-is_kind.false
    ∙ ap₂ (λ (k : Bool) (n : ℕ). k && eqb n c.args.offset) c.if-is_kind.ensures c.read_u32-found.ensures
    ∙ fits_at c.args.file.now c.args.place c.args.offset
