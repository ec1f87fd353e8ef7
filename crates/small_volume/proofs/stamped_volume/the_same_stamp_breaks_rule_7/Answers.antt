-- 1000 is not greater than 1000.
use Rattle.std.proofs.Common.{refl, arith}
use Rattle.cell_types.specs.Records.{IsRecordCell}
use Rattle.cell_types.specs.declared.record_cell.RecordCell.TheVariants.{Stamp}
use Rattle.small_volume.specs.ForeignCells.{same_stamp_cell}
use Rattle.small_volume.proofs.StampOrder.{breaks, stamp_1}
use Rattle.small_volume.proofs.stamped_volume.the_same_stamp_breaks_rule_7.Goals as goal

stamp_is : IsRecordCell (Stamp 1000) 11 same_stamp_cell
stamp_is = record { fits = omega arith; well_formed = tt; same = refl }

pub returns-clause-holds : goal.returns-clause-holds
returns-clause-holds c = stamp_1 1000 same_stamp_cell stamp_is

pub returns-clause-broken : goal.returns-clause-broken
returns-clause-broken c = breaks 1000 same_stamp_cell stamp_is (omega arith)
