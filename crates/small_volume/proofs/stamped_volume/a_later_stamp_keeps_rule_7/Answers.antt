-- 1001 is greater than 1000.
use Rattle.small_volume.specs.ForeignCells.{later_stamp_cell}
use Rattle.small_volume.proofs.StampOrder.{keeps, later_is, stamp_1}
use Rattle.small_volume.proofs.stamped_volume.a_later_stamp_keeps_rule_7.Goals as goal

pub returns-clause-holds : goal.returns-clause-holds
returns-clause-holds c = stamp_1 1001 later_stamp_cell later_is

pub returns-clause-kept : goal.returns-clause-kept
returns-clause-kept c = keeps
