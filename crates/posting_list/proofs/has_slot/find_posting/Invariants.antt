-- The ordinals that are left.
use Rattle.std.proofs.Common.{◌-◌}
use Rattle.posting_list.specs.Keeping.{KeepsSearch}
use Rattle.posting_list.proofs.Bisecting.{HasSoFar, IsNarrowed}
use Rattle.posting_list.proofs.has_slot.find_posting.Given as goal

abbrev pub invariant-loop-low : goal.invariant-loop-low
invariant-loop-low g l = record {
  kept : KeepsSearch (g.V.View.seen l.view) l.kept;
  so_far : HasSoFar l.reach l.term l.slot (g.V.View.seen l.fn.view) (g.V.View.seen l.view) l.low l.high;
  narrowed : IsNarrowed (g.V.View.seen l.fn.view) (g.V.View.seen l.view) l.low l.high;
}

abbrev pub decreases-loop-low : goal.decreases-loop-low
decreases-loop-low g l = l.high - l.low
