-- The stamps of the slots so far are in order, and this is the greatest of the done ones.
use Rattle.cell_types.specs.Layout.{spare_at}
use Rattle.log_audit.specs.KeptVolumes.{image_in}
use Rattle.log_audit.proofs.Families.{AreFine}
use Rattle.tamper_rules.specs.Rules.{IsTrueStamp}
use Rattle.slot_audit.specs.Strays.{IsLatest}
use Rattle.slot_audit.proofs.stamps.first_false_stamp.Given as goal

abbrev pub invariant-loop-slot : goal.invariant-loop-slot
invariant-loop-slot l = AreFine (image_in l.volume) spare_at (IsTrueStamp l.volume.geometry (image_in l.volume)) l.slot
    × IsLatest l.volume.geometry (image_in l.volume) l.slot l.latest
