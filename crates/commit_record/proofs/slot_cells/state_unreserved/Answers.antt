-- A written cell is out of place.
use Rattle.std.proofs.Common.{None, sym, ◌∙◌}
use Rattle.commit_record.proofs.CellsMake.{IsLateDone, outcome_unreserved, done_without_reserve}
use Rattle.commit_record.proofs.CellsSeen.{handed}
use Rattle.commit_record.proofs.slot_cells.state_unreserved.Goals as goal
use Rattle.worm_device.specs.declared.looks.Found.TheVariants.{Blank}

-- the outcome cell is written
pub returns-in-Some : goal.returns-in-Some
returns-in-Some c =
    outcome_unreserved _ c.args.slot c.requires Blank c.args.outcome c.args.done None
    c.outcome_at.result c.in-Some.found c.outcome_at.ensures.at (sym c.in-Some.ensures)

-- the done cell is
pub returns-in_err-no_done_cell : goal.returns-in_err-no_done_cell
returns-in_err-no_done_cell c =
    let e = c.in_err-no_done_cell.field-0.0 in
    let w = c.in_err-no_done_cell.ensures.written in
    let late : IsLateDone c.args.slot c.args.done e = record { rule = w.0; cell = w.1; found = w.2 } in
    rw (handed c.from_residual.result e c.from_residual.ensures.1)
    (done_without_reserve _ c.args.slot c.requires Blank c.args.outcome c.args.done None e (sym c.written_cell.ensures
    ∙ c.in_default.is) late)
