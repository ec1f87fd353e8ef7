-- The slots below this turn's have hash trails.
use Rattle.log_audit.specs.KeptVolumes.{image_in}
use Rattle.tree_audit.proofs.Trailing.{HaveTrails}
use Rattle.tree_audit.proofs.trails.first_broken_path.Given as goal

abbrev pub invariant-loop-slot : goal.invariant-loop-slot
invariant-loop-slot l = HaveTrails l.volume.geometry (image_in l.volume) l.slot
