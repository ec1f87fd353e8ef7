-- The path was followed down to this turn's level.
use Rattle.log_audit.specs.Kept.{image_of_kept}
use Rattle.tree_audit.proofs.Pathing.{IsFollowed}
use Rattle.tree_audit.proofs.paths.goes_by.Given as goal

abbrev pub invariant-loop-level : goal.invariant-loop-level
invariant-loop-level l = IsFollowed l.geometry (image_of_kept l.kept) l.digest l.node l.x l.level l.at
