-- The line of the document, the cells, and what is behind them.
use Rattle.std.proofs.Common.{◌≡◌, ◌==◌, ◌∙◌, ℕ, List, length, ap, sym, true≢false}
use Rattle.receipt_text.proofs.WholeText.{bad_end, fault_ends, good_end, is_empty, no_head, no_line}
use Rattle.receipt_text.proofs.reading.read_receipt.Goals as goal

-- there is no line
pub returns-in_default : goal.returns-in_default
returns-in_default c = no_line c.args.cells c.args.text.now c.ranges.cells.fits c.in_default.ensures.none

-- the first is no line of a document
pub returns-in_default-head_of : goal.returns-in_default-head_of
returns-in_default-head_of c =
    no_head c.args.cells c.args.text.now c.in-Some.first.front.now c.in-Some.first.rest.now c.ranges.cells.fits
    c.in-Some.ensures.some c.in-Some.ensures.first c.in_default-head_of.ensures.none

-- a line behind it breaks the form
pub returns-in-Err : goal.returns-in-Err
returns-in-Err c =
    fault_ends c.args.cells c.args.text.now c.in-Some.first.front.now c.in-Some.first.rest.now
    c.in-Some-head_of.head.slot c.in-Some-head_of.head.identifier.now c.ranges.cells.fits c.in-Some.ensures.some
    c.in-Some-head_of.ensures.some c.in-Some-head_of.ensures.slot c.in-Some-head_of.ensures.identifier c.in-Err.fault
    c.in-Err.ensures

-- something stands behind the line of the end
pub returns-then-not-is_empty : goal.returns-then-not-is_empty
returns-then-not-is_empty c =
    bad_end c.args.cells c.args.text.now c.in-Some.first.front.now c.in-Some.first.rest.now
    c.in-Some-head_of.head.slot c.in-Some-head_of.head.identifier.now c.ranges.cells.fits c.in-Some.ensures.some
    c.in-Some-head_of.ensures.some c.in-Some-head_of.ensures.slot c.in-Some-head_of.ensures.identifier c.in-Ok.listing
    c.in-Ok.ensures
    (λ nothing. true≢false (sym (c.is_empty.ensures ∙ ap (λ (l : List ℕ). length l == 0) nothing)
    ∙ c.if-not-is_empty.true))

-- nothing does
pub returns : goal.returns
returns c =
    let identifier : c.new.result ≡ c.in-Some-head_of.head.identifier.now =
    c.new.ensures ∙ c.in_ok-identifier.ensures.items in
    rw identifier
    (good_end c.args.cells c.args.text.now c.in-Some.first.front.now c.in-Some.first.rest.now
    c.in-Some-head_of.head.slot c.in-Some-head_of.head.identifier.now c.ranges.cells.fits c.in-Some.ensures.some
    c.in-Some-head_of.ensures.some c.in-Some-head_of.ensures.slot c.in-Some-head_of.ensures.identifier c.in-Ok.listing
    c.in-Ok.ensures (is_empty c.in-Ok.listing.behind.now (sym c.is_empty.ensures ∙ c.if-not-is_empty.false)))
