-- The slots below this turn's keep the rule.
use Rattle.cell_types.specs.Layout.{outcome_at}
use Rattle.log_audit.specs.KeptVolumes.{image_in}
use Rattle.log_audit.proofs.Families.{AreFine}
use Rattle.slot_audit.proofs.TilesStating.{SlotTiles}
use Rattle.slot_audit.proofs.tilings.first_broken_tiling.Given as goal

abbrev pub invariant-loop-slot : goal.invariant-loop-slot
invariant-loop-slot l = AreFine (image_in l.volume) outcome_at (SlotTiles l.volume.geometry (image_in l.volume)) l.slot
