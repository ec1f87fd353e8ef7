-- The cell is put, if a stamp is given.
use Rattle.cell_types.specs.declared.record_cell.RecordCell.TheVariants.{Stamp}
use Rattle.tamper_rules.specs.declared.numbers.TheConstants.{STRAY_CELL}
use Rattle.recovery_engine.proofs.LastCells.{record_put}
use Rattle.plan_writer.proofs.StoredCells.{stamp_given}
use Rattle.plan_writer.proofs.steps.put_stamp.Goals as goal

pub returns : goal.returns
returns g c = stamp_given c.args.slot c.args.stamp c.in-Some.seconds _ c.in-Some.is
    (record_put (Stamp c.in-Some.seconds) STRAY_CELL c.spare_at-at.result _ c.encode.result c.spare_at-at.ensures.at
    c.encode.ensures.same)
    c.put_cell.ensures
