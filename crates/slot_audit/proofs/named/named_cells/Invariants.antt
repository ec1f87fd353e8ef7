-- What the slots so far name is there.
use Rattle.log_audit.specs.KeptVolumes.{image_in}
use Rattle.slot_audit.proofs.Naming.{NamedBelow}
use Rattle.slot_audit.proofs.named.named_cells.Given as goal

abbrev pub invariant-loop-slot : goal.invariant-loop-slot
invariant-loop-slot l = NamedBelow l.volume.geometry (image_in l.volume) l.slot l.cells.items
