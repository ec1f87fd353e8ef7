-- The kept cell in the middle is the one; its number is lower, or greater; the places have come together.
use Rattle.std.proofs.Common.{◌∙◌, ℕ, List, Some, sym, ap, arith}
use Rattle.log_audit.specs.AllRows.{all_rows}
use Rattle.log_audit.specs.Cells.{shown_by}
use Rattle.log_audit.proofs.Finding.{shown_kept, none_between}
use Rattle.log_audit.proofs.asking.held_between.Goals as goal

pub returns-then-row-number : goal.returns-then-row-number
returns-then-row-number c =
    ap (λ (cell : List ℕ). Some cell) c.cell_of.ensures
    ∙ sym (shown_kept (all_rows c.args.rows.now) _ c.in-Some.row c.requires.rising (sym c.row_at.ensures ∙ c.in-Some.is))
    ∙ ap (shown_by (all_rows c.args.rows.now)) c.if-row-number.true

pub returns : goal.returns
returns c = none_between (all_rows c.args.rows.now) c.loop-low.invariant.0 (omega (arith, c.loop-low-test.false))

pub overflow_add-low : goal.overflow_add-low
overflow_add-low c = omega (arith, c.place_to_ask-middle.ensures.below, c.loop-low.invariant.2, c.ranges.to.fits)
