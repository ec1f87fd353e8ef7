-- Nothing so far, one more, and no more.
use Rattle.std.proofs.Common.{◌+◌, sym, subst}
use Rattle.log_audit.specs.KeptVolumes.{image_in}
use Rattle.volume_meaning.specs.Slots.{IsAbandonedSlot}
use Rattle.log_audit.proofs.Deciding.{decided_no, decided_yes}
use Rattle.volume_audit.proofs.Counting.{CountsTo, none_yet, one_more, no_more}
use Rattle.volume_audit.proofs.report.count_abandoned.Goals.{then-is_abandoned, else-is_abandoned}
use Rattle.volume_audit.proofs.report.count_abandoned.Goals as goal

pub loop-slot-init : goal.loop-slot-init
loop-slot-init c = let volume = c.args.volume.now in
    none_yet (IsAbandonedSlot volume.geometry (image_in volume) (image_in volume))

pub loop-slot-preserved : goal.loop-slot-preserved
loop-slot-preserved c = let volume = c.args.volume.now in
    elim c.if-is_abandoned.branch [
      | then-is_abandoned w ↦ subst (CountsTo (IsAbandonedSlot volume.geometry (image_in volume)
          (image_in volume)) (c.loop-slot.slot + 1)) (sym w.abandoned-is)
          (one_more c.loop-slot.invariant (decided_yes _ c.is_abandoned.ensures w.if-is_abandoned.true))
      | else-is_abandoned w ↦ subst (CountsTo (IsAbandonedSlot volume.geometry (image_in volume)
          (image_in volume)) (c.loop-slot.slot + 1)) (sym w.abandoned-is)
          (no_more c.loop-slot.invariant (decided_no _ c.is_abandoned.ensures w.if-is_abandoned.false))
    ]
