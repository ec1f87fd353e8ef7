-- The cell is put.
use Rattle.cell_types.specs.declared.record_cell.RecordCell.TheVariants.{Reserve}
use Rattle.tamper_rules.specs.declared.numbers.TheConstants.{RESERVE_CELL}
use Rattle.recovery_engine.proofs.LastCells.{record_put, this_phase}
use Rattle.plan_writer.proofs.steps.reserve.Goals as goal

pub returns : goal.returns
returns g c = this_phase _ _ _ _ _
    (record_put (Reserve c.args.cells.start c.args.cells.length) RESERVE_CELL c.reserve_at-at.result _ c.encode.result
    c.reserve_at-at.ensures.at c.encode.ensures.same)
    c.put_one.ensures
