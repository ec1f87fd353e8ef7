-- The cell is put.
use Rattle.cell_types.specs.declared.record_cell.RecordCell.TheVariants.{Commit}
use Rattle.tamper_rules.specs.declared.numbers.TheConstants.{OUTCOME_CELL}
use Rattle.recovery_engine.proofs.LastCells.{record_put, this_phase}
use Rattle.plan_writer.proofs.steps.commit.Goals as goal

pub returns : goal.returns
returns g c = this_phase _ _ _ _ _
    (record_put (Commit c.args.bytes c.args.journal) OUTCOME_CELL c.outcome_at-at.result _ c.encode.result
    c.outcome_at-at.ensures.at c.encode.ensures.same)
    c.put_one.ensures
