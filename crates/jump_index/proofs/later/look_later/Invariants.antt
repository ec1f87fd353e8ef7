-- Up to the end of the last span that was tried no posting has a trail.
use Rattle.std.proofs.Common.{◌-◌}
use Rattle.std.specs.Prelude.{IsTrue}
use Rattle.jump_index.specs.Keeping.{IsSearchKept}
use Rattle.jump_index.proofs.LookingLater.{LaterSoFar}
use Rattle.jump_index.proofs.later.look_later.Given as goal

abbrev pub invariant-loop-span : goal.invariant-loop-span
invariant-loop-span g l = record {
  so_far : LaterSoFar l.bounds l.tried.block l.tried.greatest l.tried.span.high (g.V.View.seen l.fn.view)
      (g.V.View.seen l.view) l.span;
  kept : IsTrue (g.V.View.seen l.fn.view).base.tells → IsSearchKept (g.V.View.seen l.view).image l.kept;
}

abbrev pub decreases-loop-span : goal.decreases-loop-span
decreases-loop-span g l = l.bound - l.span.high
