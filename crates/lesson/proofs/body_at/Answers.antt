-- `Located`: the row is in the file, and so is the body; what is read there is the row's offset and length.
use Rattle.std.proofs.Common.{◌≡◌, ℕ, ◌+◌, ◌-◌, ◌*◌, take, drop, sym, ap, ◌∙◌, ap₂, arith, drop-drop}
use Rattle.little_endian.specs.Number.{from_little_endian}
use Rattle.lesson.specs.Read.{row_at, row_offset, row_length}
use Rattle.lesson.proofs.body_at.Goals as goal

pub slice_bounds-result-end : goal.slice_bounds-result-end
slice_bounds-result-end c =
    let f = c.args.file.now in
    let row = 2 + 11 * c.args.i in
    let from : c.read_u32-start.result ≡ row_offset (row_at f c.args.i) =
    c.read_u32-start.ensures ∙ ap (from_little_endian 4) (sym (drop-drop 5 row f)) in
    let len : c.read_u16.result ≡ row_length (row_at f c.args.i) =
    c.read_u16.ensures ∙ ap (from_little_endian 2) (sym (drop-drop 9 row f)) in
    omega arith

pub returns : goal.returns
returns c =
    let f = c.args.file.now in
    let row = 2 + 11 * c.args.i in
    let from : c.read_u32-start.result ≡ row_offset (row_at f c.args.i) =
    c.read_u32-start.ensures ∙ ap (from_little_endian 4) (sym (drop-drop 5 row f)) in
    let len : c.read_u16.result ≡ row_length (row_at f c.args.i) =
    c.read_u16.ensures ∙ ap (from_little_endian 2) (sym (drop-drop 9 row f)) in
    let size : c.read_u32-start.result + c.read_u16.result - c.read_u32-start.result ≡ c.read_u16.result = omega arith in
    ap₂ (λ (m n : ℕ). take m (drop n f)) (size ∙ len) from
