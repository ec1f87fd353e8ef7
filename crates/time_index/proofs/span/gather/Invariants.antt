-- The stamps before the next one are answered for.
use Rattle.std.proofs.Common.{◌+◌, ◌-◌}
use Rattle.posting_list.specs.Keeping.{KeepsSearch}
use Rattle.time_index.specs.Gathering.{SpanSoFar, unanswered}
use Rattle.time_index.proofs.span.gather.Given as goal

abbrev pub invariant-loop-next : goal.invariant-loop-next
invariant-loop-next g l = record {
  kept : KeepsSearch (g.V.View.seen l.view) l.kept;
  so_far : SpanSoFar l.reach l.from l.to l.next (g.V.View.seen l.fn.view) (g.V.View.seen l.view) l.matches.items l.last;
}

abbrev pub decreases-loop-next : goal.decreases-loop-next
decreases-loop-next g l = l.to + 1 - unanswered l.next l.to
