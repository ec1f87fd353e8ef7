-- The postings before this turn's have trails.
use Rattle.std.proofs.Common.{◌≡◌, ◌<◌, ℕ, Some}
use Rattle.std.specs.Prelude.{slice_get}
use Rattle.cell_types.specs.Layout.{list_at}
use Rattle.log_audit.specs.KeptVolumes.{image_in}
use Rattle.volume_meaning.specs.Blocks.{PostingFields}
use Rattle.list_audit.specs.Tables.{FitsRow, number_of}
use Rattle.list_audit.specs.Trails.{HasTrail}
use Rattle.list_audit.proofs.rules.are_led_to.Given as goal

abbrev pub invariant-loop-row : goal.invariant-loop-row
invariant-loop-row l = (i list : ℕ) (p : PostingFields) → i < l.row-index → FitsRow list p
    → slice_get l.table.rows.items i ≡ Some (number_of list p.key p.last, p.tag)
    → HasTrail l.volume.geometry (image_in l.volume) p (list_at l.volume.geometry list)
