-- The lists before this one, but for the first, have the slot.
use Rattle.std.proofs.Common.{◌<◌, ◌≤◌, ◌+◌, ℕ}
use Rattle.zigzag_join.specs.Lists.{Keeps}
use Rattle.zigzag_join.proofs.join.all_have.Given as goal

abbrev pub invariant-loop-which : goal.invariant-loop-which
invariant-loop-which g l = record {
  kept : Keeps (g.Q.Lists.state l.fn.lists) (g.Q.Lists.state l.lists);
  next_asks : (g.Q.Lists.state l.lists).next_asks ≤ (g.Q.Lists.state l.fn.lists).next_asks;
  has_asks : (g.Q.Lists.state l.lists).has_asks + 1 ≤ (g.Q.Lists.state l.fn.lists).has_asks + l.which;
  vouched : (w : ℕ) → 1 ≤ w → w < l.which → (g.Q.Lists.state l.lists).vouches w l.slot;
}
