-- What was read is pushed.
use Rattle.std.proofs.Common.{take}
use Rattle.record_query.proofs.matching.push_next.Goals as goal

pub returns-clause-ends : goal.returns-clause-ends
returns-clause-ends g c =
    let ends = c.in_ok-count.ensures.ends in
    record {
      piece = take c.in_ok-count.count c.next_row.new.into;
      is_length = ends.2;
      some = ends.1;
      faults = ends.0;
      read = ends.3;
      pushed = c.in_ok-push_all.ensures;
    }
