-- The posting stands in the first cell of the time list.
use Rattle.small_volume.proofs.StampedIndex.{is_time, time_trail}
use Rattle.small_volume.proofs.stamped_volume.the_time_posting_has_a_trail.Goals as goal

pub returns-clause-posting : goal.returns-clause-posting
returns-clause-posting c = is_time

pub returns-clause-trail : goal.returns-clause-trail
returns-clause-trail c = time_trail
