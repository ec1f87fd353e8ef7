-- The cell is the one that is made of the bytes that it counts.
use Rattle.std.proofs.Common.{ℕ, List, arith, sym, ap, subst, ◌∙◌, ◌-◌, ◌≡◌, take, drop, slice_index}
use lib.Pointwise.{bytes_decides}
use Rattle.cell_types.specs.Contents.{content_bytes}
use Rattle.cell_types.proofs.ContentCells.{content_found, full_cell}
use Rattle.cell_types.proofs.content_cell.content_of.Goals as goal

pub returns-then-eq : goal.returns-then-eq
returns-then-eq c =
    let n = slice_index c.bytes-all.result 0 - 16 in
    let bytes = c.copy_from_slice.new.self in
    let same : c.args.cell ≡ content_bytes (take n bytes) =
    sym ((bytes_decides c.content.result c.args.cell).0 (sym c.eq.ensures ∙ c.if-eq.true)) ∙ (rw c.from.ensures at c.content.ensures) in
    let copied : bytes ≡ take 15 (drop 1 c.args.cell) = rw c.bytes-all.ensures.same at c.copy_from_slice.ensures.after in
    let held = content_found c.args.cell bytes n c.bytes-all.ensures.cell copied (omega arith) (omega arith) same in
    record { some = held.0; most = omega arith; zeros = held.1; none = tt }

pub returns-then-length-eq-MOST_BYTES : goal.returns-then-length-eq-MOST_BYTES
returns-then-length-eq-MOST_BYTES c =
    let n = slice_index c.bytes-all.result 0 - 16 in
    let bytes = c.copy_from_slice.new.self in
    let copied : bytes ≡ take 15 (drop 1 c.args.cell) = rw c.bytes-all.ensures.same at c.copy_from_slice.ensures.after in
    let kind : slice_index c.args.cell 0 ≡ 31 =
    ap (λ (l : List ℕ). slice_index l 0) (sym c.bytes-all.ensures.same)
    ∙ omega (arith, c.if-length-eq-MOST_BYTES.true) in
    let same : c.args.cell ≡ content_bytes (take n bytes) =
    subst (λ (m : ℕ). c.args.cell ≡ content_bytes (take m bytes)) (sym c.if-length-eq-MOST_BYTES.true)
    (full_cell c.args.cell bytes c.bytes-all.ensures.cell copied kind) in
    let held = content_found c.args.cell bytes n c.bytes-all.ensures.cell copied (omega arith) (omega arith) same in
    record { some = held.0; most = omega arith; zeros = held.1; none = tt }
