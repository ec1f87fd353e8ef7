-- A line lists one cell.
use Rattle.std.proofs.Common.{◌≡◌, ◌∙◌, arith, sym}
use Rattle.receipt_text.proofs.ReceiptLines.{cell_once}
use Rattle.receipt_text.proofs.lines.cell_within.Goals as goal

pub returns-in_default-clause-none : goal.returns-in_default-clause-none
returns-in_default-clause-none c = λ at value past below is same.
    c.in_default.ensures.none at value (omega (arith, below, c.ranges.size.fits)) is same

-- it is before those that can follow
pub returns-then-cell-next-clause-none : goal.returns-then-cell-next-clause-none
returns-then-cell-next-clause-none c = λ at value past below is same.
    let there : c.in-Some.cell.at ≡ at =
    (cell_once (c.in-Some.cell.at, c.in-Some.cell.value) (at, value) c.in-Some.ensures.fits
    (omega (arith, below, c.ranges.size.fits)) c.in-Some.ensures.written is (sym c.in-Some.ensures.some ∙ same)).0 in
    omega (arith, there, past, c.if-cell-next.true)

-- or the device does not have it
pub returns-then-cell-size-clause-none : goal.returns-then-cell-size-clause-none
returns-then-cell-size-clause-none c = λ at value past below is same.
    let there : c.in-Some.cell.at ≡ at =
    (cell_once (c.in-Some.cell.at, c.in-Some.cell.value) (at, value) c.in-Some.ensures.fits
    (omega (arith, below, c.ranges.size.fits)) c.in-Some.ensures.written is (sym c.in-Some.ensures.some ∙ same)).0 in
    omega (arith, there, below, c.if-cell-size.true)
