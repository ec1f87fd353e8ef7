-- The view has as many cells as before, and what is kept is known of it.
use Rattle.std.proofs.Common.{◌≡◌}
use Rattle.std.specs.Prelude.{IsTrue}
use Rattle.jump_index.specs.Keeping.{IsSearchKept}
use Rattle.worked_lists.proofs.searches.are_seen_or_named.Given as goal

abbrev pub invariant-loop-key : goal.invariant-loop-key
invariant-loop-key g l = record {
  cells : (g.V.View.seen l.view).cells ≡ (g.V.View.seen l.fn.view).cells;
  kept : IsTrue (g.V.View.seen l.view).base.tells → IsSearchKept (g.V.View.seen l.view).image l.kept;
}
