-- No posting before this turn's place has a key between.
use Rattle.log_audit.specs.Kept.{image_of_kept}
use Rattle.tree_audit.proofs.Spanning.{NoneBelow}
use Rattle.tree_audit.proofs.spans.has_key_between.Given as goal

abbrev pub invariant-loop-place : goal.invariant-loop-place
invariant-loop-place l = NoneBelow (image_of_kept l.kept) l.block l.low l.high l.place
