-- No slot that no list may pass was passed, and the last lists have come to this one.
use Rattle.std.proofs.Common.{◌≡◌, ◌+◌, ◌-◌, ◌*◌, IsTrue}
use Rattle.zigzag_join.proofs.Joining.{JoinSoFar, LastVouch}
use Rattle.zigzag_join.proofs.join.next_common.Given as goal

abbrev pub invariant-loop-slot : goal.invariant-loop-slot
invariant-loop-slot g l = record {
  count : l.count ≡ (g.Q.Lists.state l.fn.lists).lists;
  so_far : JoinSoFar (g.Q.Lists.state l.fn.lists) (g.Q.Lists.state l.lists) l.fn.from l.which l.agreed l.slot;
  vouched : IsTrue l.vouched → LastVouch (g.Q.Lists.state l.fn.lists).lists (g.Q.Lists.state l.lists) l.which l.agreed l.slot;
}

abbrev pub decreases-loop-slot : goal.decreases-loop-slot
decreases-loop-slot g l = (16777216 - l.slot) * (l.count + 1) + (l.count - l.agreed)
