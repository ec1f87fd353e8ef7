-- The lists of the terms were asked for all that they have in common.
use Rattle.std.proofs.Common.{rules}
use Rattle.record_query.proofs.Gathered.{gathers_then, reads_then}
use Rattle.record_query.proofs.common.common_in.Goals as goal

pub returns-clause-gathers : goal.returns-clause-gathers
returns-clause-gathers g c =
    let gathers =
    rw (c.new-lists.ensures.reach, c.new-lists.ensures.sought, c.new-lists.ensures.view) at c.all_common.ensures.gathers in
    gathers_then gathers (search rules) (search rules)

pub returns-clause-reads : goal.returns-clause-reads
returns-clause-reads g c =
    let unasked = c.new-lists.ensures.unasked in
    let reads =
    rw (c.new-lists.ensures.reach, c.new-lists.ensures.sought, c.new-lists.ensures.view) at (c.all_common.ensures.reads unasked.0 unasked.1) in
    reads_then reads (search rules) (search rules)
