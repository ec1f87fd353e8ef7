-- One cell a turn, until a line ends the receipt or is none that can follow.
use Rattle.std.proofs.Common.{◌∙◌, arith, sym, true≢false}
use Rattle.receipt_text.proofs.ReadingOn.{all_read, nothing_read, read_more, read_most, stuck_at_line, stuck_at_most, stuck_without_line}
use Rattle.receipt_text.specs.declared.receipt.TheConstants.{MAX_RECEIPT_CELLS}
use Rattle.receipt_text.proofs.reading.read_cells.Goals as goal

pub loop-count-init : goal.loop-count-init
loop-count-init c = rw c.new-cells.ensures (nothing_read c.args.size c.args.text.now)

-- no newline is left
pub returns-in_default : goal.returns-in_default
returns-in_default c =
    stuck_without_line c.args.size c.args.text.now c.loop-count.count c.loop-count.next c.loop-count.cells
    c.loop-count.rest.now c.ranges.size.fits c.loop-count.invariant (omega arith) c.in_default.ensures.none

-- the line ends the receipt
pub returns-then-is_end_line : goal.returns-then-is_end_line
returns-then-is_end_line c =
    all_read c.args.size c.args.text.now c.loop-count.next _ c.loop-count.rest.now c.in-Some.cut.front.now
    c.loop-count.invariant c.in-Some.ensures.some (c.is_end_line.ensures.0 c.if-is_end_line.true) (omega arith)

-- it lists no cell that can follow
pub returns-in_default-cell_within : goal.returns-in_default-cell_within
returns-in_default-cell_within c =
    stuck_at_line c.args.size c.args.text.now c.loop-count.count c.loop-count.next c.loop-count.cells
    c.loop-count.rest.now c.ranges.size.fits c.loop-count.invariant (omega arith) c.in-Some.cut.front.now
    c.in-Some.cut.rest.now c.in-Some.ensures.some c.in-Some.ensures.first
    (λ same. true≢false (sym (c.is_end_line.ensures.1 same) ∙ c.if-is_end_line.false))
    (λ at value room past below is same. c.in_default-cell_within.ensures.none at value past below is same)

-- it lists the next cell
pub loop-count-preserved : goal.loop-count-preserved
loop-count-preserved c =
    read_more c.args.size c.args.text.now c.loop-count.count c.loop-count.next c.in-Some-cell_within.found.at
    c.in-Some-cell_within.found.value c.loop-count.cells c.add.new.self c.loop-count.rest.now c.in-Some.cut.front.now
    c.in-Some.cut.rest.now c.loop-count.invariant c.in-Some.ensures.some c.in-Some-cell_within.ensures.some
    c.in-Some-cell_within.ensures.from c.in-Some-cell_within.ensures.below c.in-Some-cell_within.ensures.written c.in_ok-add.ensures.entries

-- as many cells were read as may be, and no newline is left
pub returns-in_default-cut_at : goal.returns-in_default-cut_at
returns-in_default-cut_at c =
    let so_far = read_most c.args.size c.args.text.now c.loop-count.count c.loop-count.next c.loop-count.cells
    c.loop-count.rest.now c.loop-count.invariant c.loop-count.auto.count-end c.loop-count-test.false in
    stuck_without_line c.args.size c.args.text.now MAX_RECEIPT_CELLS c.loop-count.next c.loop-count.cells
    c.loop-count.rest.now c.ranges.size.fits so_far (omega arith) c.in_default-cut_at.ensures.none

-- or the line does not end the receipt
pub returns-then-not-is_end_line : goal.returns-then-not-is_end_line
returns-then-not-is_end_line c =
    let so_far = read_most c.args.size c.args.text.now c.loop-count.count c.loop-count.next c.loop-count.cells
    c.loop-count.rest.now c.loop-count.invariant c.loop-count.auto.count-end c.loop-count-test.false in
    stuck_at_most c.args.size c.args.text.now MAX_RECEIPT_CELLS c.loop-count.next c.loop-count.cells
    c.loop-count.rest.now c.ranges.size.fits so_far (omega arith) c.in-Some-cut_at.cut.front.now
    c.in-Some-cut_at.cut.rest.now c.in-Some-cut_at.ensures.some c.in-Some-cut_at.ensures.first
    (λ same. true≢false (sym (c.is_end_line-2.ensures.1 same) ∙ c.if-not-is_end_line.true)) (omega arith)

-- or it does
pub returns : goal.returns
returns c =
    let so_far = read_most c.args.size c.args.text.now c.loop-count.count c.loop-count.next c.loop-count.cells
    c.loop-count.rest.now c.loop-count.invariant c.loop-count.auto.count-end c.loop-count-test.false in
    all_read c.args.size c.args.text.now c.loop-count.next _ c.loop-count.rest.now c.in-Some-cut_at.cut.front.now so_far
    c.in-Some-cut_at.ensures.some (c.is_end_line-2.ensures.0 c.if-not-is_end_line.false) (omega arith)
