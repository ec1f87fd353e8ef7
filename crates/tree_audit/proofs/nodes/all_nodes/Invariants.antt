-- The nodes down to this turn's level were seen.
use Rattle.log_audit.specs.Kept.{image_of_kept}
use Rattle.tree_audit.proofs.Gathering.{AreSeen}
use Rattle.tree_audit.proofs.nodes.all_nodes.Given as goal

abbrev pub invariant-loop-level : goal.invariant-loop-level
invariant-loop-level l = AreSeen l.geometry (image_of_kept l.kept) l._level l.seen l.row.items
