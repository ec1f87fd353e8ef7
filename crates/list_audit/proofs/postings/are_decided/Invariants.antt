-- The blocks before this turn's are decided.
use Rattle.log_audit.specs.KeptVolumes.{image_in}
use Rattle.list_audit.proofs.Sharing.{AreDecidedBelow}
use Rattle.list_audit.proofs.postings.are_decided.Given as goal

abbrev pub invariant-loop-place : goal.invariant-loop-place
invariant-loop-place l = AreDecidedBelow l.volume.geometry (image_in l.volume) l.blocks l.place
