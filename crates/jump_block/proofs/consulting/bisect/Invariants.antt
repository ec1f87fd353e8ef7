-- The places before low hold keys below x, the place high holds a key at or past x, and after so many halvings few
-- places are left.
use Rattle.std.proofs.Common.{◌<◌, ◌≤◌, ◌+◌, ◌-◌, ◌^◌}
use Rattle.std.specs.Prelude.{IsTrue}
use Rattle.worm_device.specs.Views.{Viewed}
use Rattle.jump_block.specs.Fronts.{AreBelow}
use Rattle.jump_block.specs.Known.{IsPastKey}
use Rattle.jump_block.proofs.consulting.bisect.Given as goal

abbrev pub invariant-loop-halving : goal.invariant-loop-halving
invariant-loop-halving g l = record {
  viewed : Viewed (g.V.View.seen l.fn.view) (g.V.View.seen l.view);
  reads : (g.V.View.seen l.view).base.reads ≤ (g.V.View.seen l.fn.view).base.reads + l._halving;
  order : l.low ≤ l.high;
  within : l.high < l.front.count;
  narrow : l.high < l.low + 2 ^ (7 - l._halving);
  past : IsTrue (g.V.View.seen l.fn.view).base.tells → IsPastKey (g.V.View.seen l.view).image l.front.block l.high l.x;
  below : IsTrue (g.V.View.seen l.fn.view).base.tells → AreBelow (g.V.View.seen l.view).image l.front.block l.low l.x;
}
