-- The four cells of slot 0.
use Rattle.small_volume.proofs.Stamped.{slot_0, has_stamp, stamp_0}
use Rattle.small_volume.proofs.stamped_volume.the_stamped_slot_is_done.Goals as goal

pub returns-clause-done : goal.returns-clause-done
returns-clause-done c = slot_0

pub returns-clause-spare_cell : goal.returns-clause-spare_cell
returns-clause-spare_cell c = has_stamp

pub returns-clause-stamp : goal.returns-clause-stamp
returns-clause-stamp c = stamp_0
