-- What an audit tells of a volume that keeps each rule.
use Rattle.std.specs.Prelude.{ℕ}
use Rattle.cell_types.specs.Image.{Image}
use Rattle.cell_types.specs.Layout.{Layout}
use Rattle.volume_meaning.specs.Slots.{IsDoneSlot, IsAbandonedSlot}
use Rattle.volume_meaning.specs.Volumes.{IsVolume, IsWritten}
use Rattle.tamper_rules.specs.Settling.{IsSettled}
use Rattle.volume_audit.specs.Counts.{Counts}
use Rattle.volume_audit.specs.declared.report.AuditReport.{AuditReport}

-- so many slots are done, so many abandoned, and so many cells written
pub record IsReport (g : Layout) (image : Image) (r : AuditReport) : Type 0 where
  pub done : Counts (IsDoneSlot g image) g.slots r.done
  pub abandoned : Counts (IsAbandonedSlot g image image) g.slots r.abandoned
  pub written : Counts (IsWritten image) g.cells r.written

-- the image is a volume, and settled, and these are its numbers
pub record IsSound (cells : ℕ) (image : Image) (r : AuditReport) : Type 0 where
  pub layout : Layout
  pub volume : IsVolume cells image layout
  pub settled : IsSettled layout image
  pub report : IsReport layout image r
