-- The slots below this turn's keep the rule.
use Rattle.cell_types.specs.Layout.{done_at}
use Rattle.log_audit.specs.KeptVolumes.{image_in}
use Rattle.log_audit.proofs.Families.{AreFine}
use Rattle.list_audit.specs.Keeping.{KeepsTrailRule}
use Rattle.list_audit.proofs.rules.first_broken_trail.Given as goal

abbrev pub invariant-loop-slot : goal.invariant-loop-slot
invariant-loop-slot g l = AreFine (image_in l.volume) done_at
    (KeepsTrailRule l.volume.geometry (image_in l.volume)) l.slot
