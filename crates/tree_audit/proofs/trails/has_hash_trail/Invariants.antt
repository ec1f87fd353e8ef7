-- The trail was followed down to this turn's level.
use Rattle.document_store.specs.Heads.{id_of}
use Rattle.log_audit.specs.KeptVolumes.{image_in}
use Rattle.tree_audit.proofs.Trailing.{IsReached}
use Rattle.tree_audit.proofs.trails.has_hash_trail.Given as goal

abbrev pub invariant-loop-level : goal.invariant-loop-level
invariant-loop-level l = IsReached l.volume.geometry (image_in l.volume) (id_of l.head) l.slot l.level l.node
