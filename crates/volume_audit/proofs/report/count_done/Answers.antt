-- Nothing so far, one more, and no more.
use Rattle.std.proofs.Common.{◌+◌, sym, subst}
use Rattle.log_audit.specs.KeptVolumes.{image_in}
use Rattle.volume_meaning.specs.Slots.{IsDoneSlot}
use Rattle.log_audit.proofs.Deciding.{decided_no, decided_yes}
use Rattle.volume_audit.proofs.Counting.{CountsTo, none_yet, one_more, no_more}
use Rattle.volume_audit.proofs.report.count_done.Goals.{then-is_done, else-is_done}
use Rattle.volume_audit.proofs.report.count_done.Goals as goal

pub loop-slot-init : goal.loop-slot-init
loop-slot-init c = none_yet (IsDoneSlot c.args.volume.now.geometry (image_in c.args.volume.now))

pub loop-slot-preserved : goal.loop-slot-preserved
loop-slot-preserved c = let volume = c.args.volume.now in
    elim c.if-is_done.branch [
      | then-is_done w ↦ subst (CountsTo (IsDoneSlot volume.geometry (image_in volume)) (c.loop-slot.slot + 1))
          (sym w.done-is)
          (one_more c.loop-slot.invariant (decided_yes _ c.is_done.ensures w.if-is_done.true))
      | else-is_done w ↦ subst (CountsTo (IsDoneSlot volume.geometry (image_in volume)) (c.loop-slot.slot + 1))
          (sym w.done-is)
          (no_more c.loop-slot.invariant (decided_no _ c.is_done.ensures w.if-is_done.false))
    ]
